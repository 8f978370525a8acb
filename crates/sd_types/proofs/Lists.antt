-- Nodes that a list of chains has, and tests of all of them or of one.
use Rattle.std.proofs.Common.{◌≡◌, ◌∙◌, ◌⊎◌, inl, inr, Bool, true, false, cond, ◌&&◌, ◌||◌, List, [], ◌∷◌, map, refl, sym, ap}
use Rattle.std.proofs.lemmas.Bool.{and_from, and_parts, cases_Bool, false≢true, or_cases}
use Rattle.std.specs.List.{filter, list_all, list_any}
use Rattle.sd_types.specs.Tree.{Chain, IsNode}

-- tests that imply each other are the same
pub same_tests : (a b : Bool) → (a ≡ true → b ≡ true) → (b ≡ true → a ≡ true) → a ≡ b
same_tests true b h k = sym (h refl)
same_tests false true h k = k refl
same_tests false false h k = refl

pub clash : (a : Bool) → a ≡ true → a ≡ false → ⊥
clash a h k = false≢true (sym k ∙ h)

pub or_left : (a b : Bool) → a ≡ true → (a || b) ≡ true
or_left a b h = ap (λ x. x || b) h

pub or_right : (a b : Bool) → b ≡ true → (a || b) ≡ true
or_right true b h = refl
or_right false b h = h

module _ (p : Chain → Bool) where
  pub all_each : (xs : List Chain) → list_all p xs ≡ true → (x : Chain) → IsNode xs x → p x ≡ true
  all_each [] h x at = absurd at
  all_each (y ∷ ys) h x (inl is) = ap p (sym is) ∙ (and_parts (p y) (list_all p ys) h).0
  all_each (y ∷ ys) h x (inr at) = all_each ys (and_parts (p y) (list_all p ys) h).1 x at

  pub each_all : (xs : List Chain) → ((x : Chain) → IsNode xs x → p x ≡ true) → list_all p xs ≡ true
  each_all [] h = refl
  each_all (y ∷ ys) h = and_from (p y) (list_all p ys) (h y (inl refl)) (each_all ys (λ x at. h x (inr at)))

  later : (b : Bool) (y : Chain) (ys : List Chain) → (x : Chain) × IsNode ys x × (p x ≡ b) → (x : Chain) × IsNode (y ∷ ys) x × (p x ≡ b)
  later b y ys (x, at, is) = (x, inr at, is)

  pub any_one : (xs : List Chain) → list_any p xs ≡ true → (x : Chain) × IsNode xs x × (p x ≡ true)
  any_one [] h = absurd (false≢true h)
  any_one (y ∷ ys) h = elim (or_cases (p y) (list_any p ys) h) [
    | inl here ↦ (y, inl refl, here)
    | inr there ↦ later true y ys (any_one ys there)
  ]

  pub one_any : (xs : List Chain) (x : Chain) → IsNode xs x → p x ≡ true → list_any p xs ≡ true
  one_any [] x at h = absurd at
  one_any (y ∷ ys) x (inl is) h = or_left (p y) (list_any p ys) (ap p is ∙ h)
  one_any (y ∷ ys) x (inr at) h = or_right (p y) (list_any p ys) (one_any ys x at h)

  -- the one that fails where not all pass
  pub fails_one : (xs : List Chain) → list_all p xs ≡ false → (x : Chain) × IsNode xs x × (p x ≡ false)
  fails_one [] h = absurd (false≢true (sym h))
  fails_one (y ∷ ys) h = elim (cases_Bool (p y)) [
    | inl here ↦ later false y ys (fails_one ys (sym (ap (λ b. b && list_all p ys) here) ∙ h))
    | inr here ↦ (y, inl refl, here)
  ]

  from_cond : (b : Bool) (y : Chain) (ys : List Chain) (x : Chain) → p y ≡ b
      → (IsNode (filter p ys) x → IsNode ys x × (p x ≡ true))
      → IsNode (cond b (y ∷ filter p ys) (filter p ys)) x → IsNode (y ∷ ys) x × (p x ≡ true)
  from_cond true y ys x is rest (inl same) = (inl same, ap p (sym same) ∙ is)
  from_cond true y ys x is rest (inr at) = (inr (rest at).0, (rest at).1)
  from_cond false y ys x is rest at = (inr (rest at).0, (rest at).1)

  pub filter_from : (xs : List Chain) (x : Chain) → IsNode (filter p xs) x → IsNode xs x × (p x ≡ true)
  filter_from [] x at = absurd at
  filter_from (y ∷ ys) x at = from_cond (p y) y ys x refl (filter_from ys x) at

  to_cond : (b : Bool) (y : Chain) (l : List Chain) (x : Chain) → b ≡ p y → (y ≡ x) ⊎ IsNode l x → p x ≡ true
      → IsNode (cond b (y ∷ l) l) x
  to_cond true y l x is at h = at
  to_cond false y l x is (inl same) h = absurd (false≢true (is ∙ (ap p same ∙ h)))
  to_cond false y l x is (inr at) h = at

  pub filter_to : (xs : List Chain) (x : Chain) → IsNode xs x → p x ≡ true → IsNode (filter p xs) x
  filter_to [] x at h = at
  filter_to (y ∷ ys) x (inl same) h = to_cond (p y) y (filter p ys) x refl (inl same) h
  filter_to (y ∷ ys) x (inr at) h = to_cond (p y) y (filter p ys) x refl (inr (filter_to ys x at h)) h

pub all_same : (p q : Chain → Bool) (xs : List Chain) → ((x : Chain) → IsNode xs x → p x ≡ q x) → list_all p xs ≡ list_all q xs
all_same p q [] h = refl
all_same p q (y ∷ ys) h =
    ap (λ b. b && list_all p ys) (h y (inl refl)) ∙ ap (λ b. q y && b) (all_same p q ys (λ x at. h x (inr at)))

pub any_same : (p q : Chain → Bool) (xs : List Chain) → ((x : Chain) → IsNode xs x → p x ≡ q x) → list_any p xs ≡ list_any q xs
any_same p q [] h = refl
any_same p q (y ∷ ys) h =
    ap (λ b. b || list_any p ys) (h y (inl refl)) ∙ ap (λ b. q y || b) (any_same p q ys (λ x at. h x (inr at)))

-- a test of views is that of what is viewed
pub any_viewed : {V : Type 0} (view : V → Chain) (p : Chain → Bool) (xs : List V) → list_any (λ x. p (view x)) xs ≡ list_any p (map view xs)
any_viewed view p [] = refl
any_viewed view p (x ∷ xs) = ap (λ b. p (view x) || b) (any_viewed view p xs)
