-- The token of a user and of the texts of groups.
use Rattle.std.proofs.Common.{◌≡◌, ◌++◌, ◌∙◌, ◌&&◌, ◌||◌, List, [], ◌∷◌, Bool, true, false, fold, map, ap, inl, inr, refl, subst, sym, codes, arith}
use Rattle.std.proofs.lemmas.List.Elements.{Contains-append_right, Contains-get_or}
use Rattle.std.specs.List.{AllByRecursion, Contains}
use Rattle.sd_sid.specs.Sid.{IsSid, SidValue, same_sid}
use Rattle.sd_sid.proofs.Compared.{same_sid-true}
use Rattle.sd_acl.specs.declared.ace.AceKind.TheVariants.{Allow}
use Rattle.sd_check.specs.Token.{TokenValue, a_group_stands_for, counts, no_privileges, stands_for}
use Rattle.sd_check.specs.declared.token.GroupState.{GroupState}
use Rattle.sd_check.specs.declared.token.GroupState.TheVariants.{Enabled}
use Rattle.sd_text.specs.Canon.{full_canon}
use Rattle.sd_text.specs.declared.alias.Aliases.{Aliases}
use Rattle.sd_answer.proofs.Words.{apart}
use Rattle.sd_answer.specs.Word.{AreEach, IsWord, token_of, with_word}
use Rattle.sd_answer.specs.declared.word.Word.{Word}
use Rattle.sd_answer.specs.declared.word.Word.TheVariants.{Group}
use Rattle.sd_named.specs.Arguments.{group_text}
use Rattle.sd_named.specs.declared.word.Role.TheVariants as roles
use Rattle.sd_people.proofs.Spelled.{full_spelled}

-- a SID, and not one of the wanted
abbrev pub IsUnwanted : List SidValue → SidValue → Type 0
IsUnwanted wanted sid = IsSid sid × (Contains wanted sid → ⊥)

abbrev pub enabled_word : SidValue → Word
enabled_word sid = Group sid Enabled

-- the text of a group, which has no ending, is that group
word_of : (known : Aliases) (sid : SidValue) → IsSid sid → IsWord known (group_text roles.Enabled sid) (enabled_word sid)
unfolding full_canon
word_of known sid is =
    inr (
      λ other at. apart (full_canon sid ++ []) (codes "+security") refl at.0,
      inr (
        λ other at. apart (full_canon sid ++ []) (codes "+take") refl at.0,
        inr (
          λ other at. apart (full_canon sid ++ []) (codes "user=deny") refl at.0,
          inl ((sid, Enabled), inl (sid, (full_canon sid, refl, full_spelled known sid is), refl), refl),
        ),
      ),
    )

pub words_of : (known : Aliases) (sids : List SidValue) → AllByRecursion IsSid sids
    → AreEach (IsWord known) (map (group_text roles.Enabled) sids) (map enabled_word sids)
words_of known [] all = refl
words_of known (sid ∷ sids) all = (word_of known sid all.0, words_of known sids all.1)

pub are_sids : (wanted sids : List SidValue) → AllByRecursion (IsUnwanted wanted) sids → AllByRecursion IsSid sids
are_sids wanted [] all = tt
are_sids wanted (sid ∷ sids) all = (all.0.0, are_sids wanted sids all.1)

-- ---- whom the token stands for

module _ (one : SidValue) (wanted : List SidValue) (here : Contains wanted one) where
  other_sid : (sid : SidValue) → (Contains wanted sid → ⊥) → same_sid sid one ≡ false
  other_sid sid not = by (same_sid sid one) refl
    where
      by : (b : Bool) → same_sid sid one ≡ b → b ≡ false
      by true e = absurd (not (subst (Contains wanted) (sym (same_sid-true sid one e)) here))
      by false e = refl

  none_stands : (groups : List (SidValue × GroupState)) (sid : SidValue) → (Contains wanted sid → ⊥) → a_group_stands_for groups Allow one ≡ false
      → a_group_stands_for (groups ++ (sid, Enabled) ∷ []) Allow one ≡ false
  none_stands [] sid not none = ap (λ b. (b && true) || false) (other_sid sid not)
  none_stands (group ∷ groups) sid not none = by (same_sid group.0 one && counts Allow group.1) none (none_stands groups sid not)
    where
      by : (b : Bool) → (b || a_group_stands_for groups Allow one) ≡ false → (a_group_stands_for groups Allow one ≡ false → a_group_stands_for (groups ++ (sid, Enabled) ∷ []) Allow one ≡ false)
          → (b || a_group_stands_for (groups ++ (sid, Enabled) ∷ []) Allow one) ≡ false
      by true none rest = none
      by false none rest = rest none

  folded : (sids : List SidValue) (t : TokenValue) → AllByRecursion (IsUnwanted wanted) sids → same_sid t.user one ≡ false → a_group_stands_for t.groups Allow one ≡ false
      → stands_for (fold with_word t (map enabled_word sids)) Allow one ≡ false
  folded [] t all user groups = ap (λ b. (b && counts Allow t.user_state) || a_group_stands_for t.groups Allow one) user ∙ groups
  folded (sid ∷ sids) t all user groups =
      folded sids (with_word t (enabled_word sid)) all.1 user (none_stands t.groups sid all.0.1 groups)

  pub stands_for_none : (user : SidValue) (sids : List SidValue) → IsUnwanted wanted user → AllByRecursion (IsUnwanted wanted) sids
      → stands_for (token_of user (map enabled_word sids)) Allow one ≡ false
  stands_for_none user sids own all = folded sids _ all (other_sid user own.1) refl

no_more : (sids : List SidValue) (t : TokenValue) → (fold with_word t (map enabled_word sids)).privileges ≡ t.privileges
no_more [] t = refl
no_more (sid ∷ sids) t = no_more sids (with_word t (enabled_word sid))

pub has_no_privileges : (user : SidValue) (sids : List SidValue) → (token_of user (map enabled_word sids)).privileges ≡ no_privileges
has_no_privileges user sids = no_more sids _

-- ---- lists

pub all_from : {A : Type 0} (P : A → Type 0) (xs : List A) → ((x : A) → Contains xs x → P x) → AllByRecursion P xs
all_from P [] each = tt
all_from P (x ∷ xs) each = (each x (Contains-get_or (x ∷ xs) 0 x (omega arith)), all_from P xs (λ y at. each y (Contains-append_right (x ∷ []) xs y at)))
