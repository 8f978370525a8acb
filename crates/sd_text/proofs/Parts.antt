-- What is found behind a part, behind a name, and how far the text has come.
use Rattle.sd_text.proofs.Cited.{Bool, Err, Found, List, Name, None, Ok, Option, Some, TextFault, [], and_parts, ap, arith, begins, behind_part, cond, drop, eq_ignore_ascii_case, false, inl, inr, length, length-drop, name_or, named, refl, sym, true, ℕ, ◌<◌, ◌∷◌, ◌≡◌, ◌≤◌, ◌⊎◌}

-- a test, with how it went
pub went : (b : Bool) → (b ≡ true) ⊎ (b ≡ false)
went true = inl refl
went false = inr refl

-- a choice, with how its test went
pub chosen : {A : Type 0} (b : Bool) (x y z : A) → cond b x y ≡ z → ((b ≡ true) × (x ≡ z)) ⊎ ((b ≡ false) × (y ≡ z))
chosen true x y z e = inl (refl, e)
chosen false x y z e = inr (refl, e)

pub part_ok : {A B : Type 0} (r : Found A) (next : A → List ℕ → Found B) (b : B) (behind : List ℕ) → behind_part r next ≡ Ok (b, behind) → (a : A) × (mid : List ℕ) × (r ≡ Ok (a, mid)) × (next a mid ≡ Ok (b, behind))
part_ok (Ok x) next b behind e = (x.0, x.1, refl, e)
part_ok (Err d) next b behind e = absurd cc

pub part_err : {A B : Type 0} (r : Found A) (next : A → List ℕ → Found B) (d : TextFault × List ℕ) → behind_part r next ≡ Err d → (r ≡ Err d) ⊎ ((a : A) × (mid : List ℕ) × (r ≡ Ok (a, mid)) × (next a mid ≡ Err d))
part_err (Ok x) next d e = inr (x.0, x.1, refl, e)
part_err (Err c) next d e = inl cc

pub name_gave : {A B : Type 0} (o : Option (B × List ℕ)) (next : B → List ℕ → Found A) (other r : Found A) → name_or o next other ≡ r → ((o ≡ None) × (other ≡ r)) ⊎ ((b : B) × (mid : List ℕ) × (o ≡ Some (b, mid)) × (next b mid ≡ r))
name_gave None next other r e = inl (refl, e)
name_gave (Some x) next other r e = inr (x.0, x.1, refl, e)

pub name_is : {A : Type 0} (a b : A) (x y : List ℕ) → ◌≡◌ {A = Option (A × List ℕ)} (Some (a, x)) (Some (b, y)) → (a ≡ b) × (x ≡ y)
name_is {A = A} a b x y e = let pair : ◌≡◌ {A = A × List ℕ} (a, x) (b, y) = cc in (ap (λ (p : A × List ℕ). p.0) pair, ap (λ (p : A × List ℕ). p.1) pair)

abbrev pub found_name : {A : Type 0} → A → List ℕ → Option (A × List ℕ)
found_name a behind = Some (a, behind)

abbrev pub found : {A : Type 0} → A → List ℕ → Found A
found a behind = Ok (a, behind)

pub found_is : {A : Type 0} (a b : A) (x y : List ℕ) → found a x ≡ found b y → (a ≡ b) × (x ≡ y)
found_is {A = A} a b x y e = let pair : ◌≡◌ {A = A × List ℕ} (a, x) (b, y) = cc in (ap (λ (p : A × List ℕ). p.0) pair, ap (λ (p : A × List ℕ). p.1) pair)

abbrev pub stopped : {A : Type 0} → TextFault → List ℕ → Found A
stopped f there = Err (f, there)

pub stopped_is : {A : Type 0} (f g : TextFault) (x y : List ℕ) → stopped {A = A} f x ≡ stopped g y → (f ≡ g) × (x ≡ y)
stopped_is f g x y e = let pair : ◌≡◌ {A = TextFault × List ℕ} (f, x) (g, y) = cc in (ap (λ (p : TextFault × List ℕ). p.0) pair, ap (λ (p : TextFault × List ℕ). p.1) pair)

-- letters that stand there are one at least, and the text has them all
pub begins_fits : (text letters : List ℕ) → begins text letters ≡ true → (0 < length letters) × (length letters ≤ length text)
begins_fits [] letters e = absurd cc
begins_fits (c ∷ text) [] e = absurd cc
begins_fits (c ∷ text) (l ∷ []) e = (omega arith, omega arith)
begins_fits (c ∷ text) (l ∷ m ∷ letters) e =
    let rest = begins_fits text (m ∷ letters) ((and_parts (eq_ignore_ascii_case c l) (begins text (m ∷ letters)) e).1) in (omega arith, omega arith)

-- so they take one byte at least
pub begins_takes : (text letters : List ℕ) → begins text letters ≡ true → length (drop (length letters) text) < length text
begins_takes text letters e = let fits = begins_fits text letters e in omega (arith, length-drop (length letters) text)

-- so does a name
pub named_takes : {A : Type 0} (names : List (Name A)) (text : List ℕ) (b : A) (mid : List ℕ) → named names text ≡ Some (b, mid) → length mid < length text
named_takes [] text b mid e = absurd cc
named_takes (name ∷ names) text b mid e =
    elim (chosen (begins text name.letters) _ _ _ e) [
      | inl h ↦ rw (sym (name_is name.stands_for b (drop (length name.letters) text) mid h.1).1) (begins_takes text name.letters h.0)
      | inr h ↦ named_takes names text b mid h.1
    ]

-- no name stands at the end
pub named_none : {A : Type 0} (names : List (Name A)) → named names [] ≡ None
named_none [] = refl
named_none (name ∷ names) = named_none names
