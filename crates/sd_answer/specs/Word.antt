-- The words that make a token: a user's groups, restricting SIDs, privileges, and that the user counts for denies
-- alone. SIDs may have the aliases that are known.
use Rattle.std.specs.Prelude.{◌≡◌, ◌⊎◌, ℕ, zero, suc, true, List, [], ◌∷◌, ◌++◌, fold, map, codes, if◌then◌else◌}
use Rattle.std.specs.Borrow.{Bor}
use Rattle.sd_sid.specs.Sid.{SidValue}
use Rattle.sd_text.specs.Grammar.{Spells}
use Rattle.sd_text.specs.Sid.{sid_text_in}
use Rattle.sd_text.specs.declared.alias.Aliases.{Aliases}
use Rattle.sd_check.specs.Token.{TokenValue, plain_token}
use Rattle.sd_check.specs.declared.token.GroupState.{GroupState}
use Rattle.sd_check.specs.declared.token.GroupState.TheVariants.{Enabled, DenyOnly, Disabled}
use Rattle.sd_answer.specs.declared.word.TokenParts.{TokenParts}
use Rattle.sd_answer.specs.declared.word.Word.{Word}
use Rattle.sd_answer.specs.declared.word.Word.TheVariants.{DenyOnlyUser, Group, Restricting, Security, TakeOwnership}

-- the text is a SID and then this ending
abbrev pub IsSidBefore : Aliases → List ℕ → List ℕ → SidValue → Type 0
IsSidBefore known text ending sid = (front : List ℕ) × (text ≡ front ++ ending) × Spells (sid_text_in known) front sid

-- what it is by the first of two readings, or else by the second
abbrev pub Or : {A : Type 0} → (A → Type 0) → (A → Type 0) → A → Type 0
Or {A} First Second one = First one ⊎ (((other : A) → First other → ⊥) × Second one)

-- a SID with an ending, which makes it this
abbrev pub Ended : {A : Type 0} → Aliases → List ℕ → List ℕ → (SidValue → A) → A → Type 0
Ended known text ending made one = (sid : SidValue) × IsSidBefore known text ending sid × (one ≡ made sid)

-- a text of its own, which is this
abbrev pub Plain : {A : Type 0} → List ℕ → List ℕ → A → A → Type 0
Plain text plain this one = (text ≡ plain) × (one ≡ this)

-- the text is this group
abbrev pub IsGroup : Aliases → List ℕ → SidValue × GroupState → Type 0
IsGroup known text =
    Or (Ended known text [] (λ sid. (sid, Enabled)))
    (Or (Ended known text (codes "=deny") (λ sid. (sid, DenyOnly)))
    (Ended known text (codes "=off") (λ sid. (sid, Disabled))))

-- the text is this word
abbrev pub IsWord : Aliases → List ℕ → Word → Type 0
IsWord known text =
    Or (Plain text (codes "+security") Security)
    (Or (Plain text (codes "+take") TakeOwnership)
    (Or (Plain text (codes "user=deny") DenyOnlyUser)
    (Or (λ word. (group : SidValue × GroupState) × IsGroup known text group × (word ≡ Group group.0 group.1))
    (Ended known text (codes "=restrict") Restricting))))

-- lent texts, as what they are
abbrev pub texts : List (Bor (List ℕ)) → List (List ℕ)
texts lent = map (λ (text : Bor (List ℕ)). text.now) lent

-- the texts are these, one for one
abbrev pub AreEach : {A : Type 0} → (List ℕ → A → Type 0) → List (List ℕ) → List A → Type 0
AreEach Is [] ones = ones ≡ []
AreEach Is (text ∷ texts) [] = ⊥
AreEach Is (text ∷ texts) (one ∷ ones) = Is text one × AreEach Is texts ones

-- the text at the place is none of these, and those before it are some
abbrev pub IsFirstNone : {A : Type 0} → (List ℕ → A → Type 0) → List (List ℕ) → ℕ → Type 0
IsFirstNone Is [] place = ⊥
IsFirstNone {A} Is (text ∷ texts) zero = (one : A) → Is text one → ⊥
IsFirstNone {A} Is (text ∷ texts) (suc place) = ((one : A) × Is text one) × IsFirstNone Is texts place

-- the text at the place is the first that is no word
abbrev pub IsFirstNoWord : Aliases → List (List ℕ) → ℕ → Type 0
IsFirstNoWord known = IsFirstNone (IsWord known)

-- the texts are these groups; the one at the place is the first that is none
abbrev pub AreGroups : Aliases → List (List ℕ) → List (SidValue × GroupState) → Type 0
AreGroups known = AreEach (IsGroup known)

abbrev pub IsFirstNoGroup : Aliases → List (List ℕ) → ℕ → Type 0
IsFirstNoGroup known = IsFirstNone (IsGroup known)

-- the token with what a word adds; a restricting SID is no group
abbrev pub with_word : TokenValue → Word → TokenValue
with_word t (Group sid state) = record t { groups = t.groups ++ (sid, state) ∷ [] }
with_word t (Restricting sid) = record t { restricting = t.restricting ++ sid ∷ [] }
with_word t Security = record t { privileges = record t.privileges { security = true } }
with_word t DenyOnlyUser = record t { user_state = DenyOnly }
with_word t TakeOwnership = record t { privileges = record t.privileges { take_ownership = true } }

-- a token in the making, as a token
abbrev pub parts_token : TokenParts → TokenValue
parts_token parts = record {
  user = parts.user;
  user_state = if parts.deny_only_user then DenyOnly else Enabled;
  groups = parts.groups.items;
  restricting = parts.restricting.items;
  privileges = parts.privileges;
}

-- the token of a user and words
abbrev pub token_of : SidValue → List Word → TokenValue
token_of user words = fold with_word (plain_token user []) words

-- the token of a user and of the words that the texts are
abbrev pub IsToken : Aliases → SidValue → List (List ℕ) → TokenValue → Type 0
IsToken known user texts token =
    (words : List Word) × AreEach (IsWord known) texts words × (token ≡ token_of user words)
