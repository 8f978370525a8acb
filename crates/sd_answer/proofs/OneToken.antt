-- A user and texts make one token, or one of the texts is no word.
use Rattle.sd_answer.proofs.Cited.{Aliases, AreEach, AreGroups, Ended, Group, GroupState, IsFirstNoGroup, IsFirstNoWord, IsFirstNone, IsGroup, IsToken, IsWord, List, Or, SidValue, Spells, TokenValue, [], ap, append_cancel_right, inl, inr, one_value, sid_text_in, subst, suc, sym, token_of, zero, ℕ, ◌∙◌, ◌∷◌, ◌≡◌}

-- at most one thing is read
abbrev IsOne : {A : Type 0} → (A → Type 0) → Type 0
IsOne {A} Is = (one other : A) → Is one → Is other → one ≡ other

or_one : {A : Type 0} (First Second : A → Type 0) → IsOne First → IsOne Second → IsOne (Or First Second)
or_one First Second first second one other (inl x) (inl y) = first one other x y
or_one First Second first second one other (inl x) (inr y) = absurd (y.0 one x)
or_one First Second first second one other (inr x) (inl y) = absurd (x.0 other y)
or_one First Second first second one other (inr x) (inr y) = second one other x.1 y.1

ended_one : {A : Type 0} (known : Aliases) (text ending : List ℕ) (made : SidValue → A) → IsOne (Ended known text ending made)
ended_one known text ending made one other x y =
    let front = append_cancel_right x.1.0 y.1.0 ending (sym x.1.1 ∙ y.1.1) in
    let sid = one_value (sid_text_in known) y.1.0 x.0 y.0 (subst (λ t. Spells (sid_text_in known) t x.0) front x.1.2) y.1.2 in
    x.2 ∙ ap made sid ∙ sym y.2

group_one : (known : Aliases) (text : List ℕ) → IsOne (IsGroup known text)
group_one known text = or_one _ _ (ended_one known text _ _) (or_one _ _ (ended_one known text _ _) (ended_one known text _ _))

word_one : (known : Aliases) (text : List ℕ) → IsOne (IsWord known text)
word_one known text =
    or_one _ _ (λ v w x y. x.1 ∙ sym y.1) (or_one _ _ (λ v w x y. x.1 ∙ sym y.1) (or_one _ _ (λ v w x y. x.1 ∙ sym y.1) (or_one _ _
    (λ v w x y. x.2 ∙ ap (λ group. Group group.0 group.1) (group_one known text x.0 y.0 x.1 y.1) ∙ sym y.2) (ended_one known text _ _))))

-- ---- one for one

module _ {A : Type 0} (Is : List ℕ → A → Type 0) where
  each_one : ((text : List ℕ) → IsOne (Is text)) → (texts : List (List ℕ)) → IsOne (AreEach Is texts)
  each_one same [] xs ys a b = a ∙ sym b
  each_one same (text ∷ texts) [] ys a b = absurd a
  each_one same (text ∷ texts) (x ∷ xs) [] a b = absurd b
  each_one same (text ∷ texts) (x ∷ xs) (y ∷ ys) a b = cc (same text x y a.0 b.0, each_one same texts xs ys a.1 b.1)

  each_or_none : (texts : List (List ℕ)) (ones : List A) (place : ℕ) → AreEach Is texts ones → IsFirstNone Is texts place → ⊥
  each_or_none [] ones place are none = none
  each_or_none (text ∷ texts) [] place are none = are
  each_or_none (text ∷ texts) (one ∷ ones) zero are none = none one are.0
  each_or_none (text ∷ texts) (one ∷ ones) (suc place) are none = each_or_none texts ones place are.1 none.1

pub token_one : (known : Aliases) (user : SidValue) (texts : List (List ℕ)) (one other : TokenValue) → IsToken known user texts one → IsToken known user texts other → one ≡ other
token_one known user texts one other x y = x.2 ∙ ap (token_of user) (each_one (IsWord known) (word_one known) texts x.0 y.0 x.1 y.1) ∙ sym y.2

pub token_or_none : (known : Aliases) (user : SidValue) (texts : List (List ℕ)) (token : TokenValue) (place : ℕ)
    → IsToken known user texts token → IsFirstNoWord known texts place → ⊥
token_or_none known user texts token place x none = each_or_none (IsWord known) texts x.0 place x.1 none

pub groups_one : (known : Aliases) (texts : List (List ℕ)) (xs ys : List (SidValue × GroupState)) → AreGroups known texts xs → AreGroups known texts ys → xs ≡ ys
groups_one known = each_one (IsGroup known) (group_one known)

pub groups_or_none : (known : Aliases) (texts : List (List ℕ)) (groups : List (SidValue × GroupState)) (place : ℕ) → AreGroups known texts groups → IsFirstNoGroup known texts place → ⊥
groups_or_none known = each_or_none (IsGroup known)
