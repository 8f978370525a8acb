-- Runs of bytes of one class, and the parts of a text that may have none. In these proofs 40 and 41 are parentheses, 123
-- and 125 braces, 32 a space, 44 a comma.
use Rattle.std.proofs.Common.{Bool, List, None, Option, Some, [], append_assoc, arith, codes, length, refl, subst, sym, true, ℕ, ◌++◌, ◌∙◌, ◌∷◌, ◌≡◌}
use Rattle.std.proofs.lemmas.Bool.{and_parts}
use Rattle.std.specs.Fmt.{◌++?◌}
use Rattle.std.specs.List.{list_all, prefix_len}
use Rattle.sd_condition_text.specs.Text.{parenthesized}

-- a run is all of these bytes, where it ends behind them
pub run_all : (p : ℕ → Bool) (xs rest : List ℕ) → list_all p xs ≡ true → prefix_len p rest ≡ 0 → prefix_len p (xs ++ rest) ≡ length xs
run_all p [] rest all none = none
run_all p (x ∷ xs) rest all none =
    let parts = and_parts (p x) (list_all p xs) all in
    let others = run_all p xs rest parts.1 none in
    rw parts.0 (omega arith)

-- ---- a part of a text, then another

pub both_texts : (front back : Option (List ℕ)) (text : List ℕ) → (front ++? back) ≡ Some text → (x : List ℕ) × (y : List ℕ) × (front ≡ Some x) × (back ≡ Some y) × (x ++ y ≡ text)
both_texts None back text e = absurd cc
both_texts (Some x) None text e = absurd cc
both_texts (Some x) (Some y) text e = (x, y, refl, refl, cc)

pub text_before : (front : Option (List ℕ)) (back text : List ℕ) → (front ++? Some back) ≡ Some text → (x : List ℕ) × (front ≡ Some x) × (x ++ back ≡ text)
text_before None back text e = absurd cc
text_before (Some x) back text e = (x, refl, cc)

pub text_behind : (front : List ℕ) (back : Option (List ℕ)) (text : List ℕ) → (Some front ++? back) ≡ Some text → (y : List ℕ) × (back ≡ Some y) × (front ++ y ≡ text)
text_behind front None text e = absurd cc
text_behind front (Some y) text e = (y, refl, cc)

-- ---- the parts of an operator's text

pub in_parentheses : (part : Option (List ℕ)) (text : List ℕ) → parenthesized part ≡ Some text → (inner : List ℕ) × (part ≡ Some inner) × (40 ∷ (inner ++ 41 ∷ []) ≡ text)
in_parentheses None text e = absurd cc
in_parentheses (Some inner) text e = (inner, refl, cc)

-- a word before its operand
pub before_operand : (w : List ℕ) (operand : Option (List ℕ)) (text : List ℕ) → (Some (w ++ codes " ") ++? operand) ≡ Some text
    → (x : List ℕ) × (operand ≡ Some x) × ((rest : List ℕ) → w ++ 32 ∷ (x ++ rest) ≡ text ++ rest)
before_operand w operand text e =
    let parts = text_behind (w ++ codes " ") operand text e in
    (parts.0, parts.1, λ rest. subst (λ (t : List ℕ). w ++ 32 ∷ (parts.0 ++ rest) ≡ t ++ rest) parts.2 (sym (append_assoc (w ++ codes " ") parts.0 rest ∙ append_assoc w (codes " ") (parts.0 ++ rest))))

-- a word between its operands
pub between_operands : (w : List ℕ) (left right : Option (List ℕ)) (text : List ℕ) → (left ++? (Some (codes " " ++ w ++ codes " ") ++? right)) ≡ Some text
    → (x : List ℕ) × (y : List ℕ) × (left ≡ Some x) × (right ≡ Some y) × ((rest : List ℕ) → x ++ 32 ∷ (w ++ 32 ∷ (y ++ rest)) ≡ text ++ rest)
between_operands w left right text e =
    let parts = both_texts left (Some (codes " " ++ w ++ codes " ") ++? right) text e in
    let behind = text_behind (codes " " ++ w ++ codes " ") right parts.1 parts.3 in
    (parts.0, behind.0, parts.2, behind.1, λ rest. whole parts.0 behind.0 parts.1 rest behind.2 parts.4)
  where
    whole : (x y z rest : List ℕ) → (codes " " ++ w ++ codes " ") ++ y ≡ z → x ++ z ≡ text → x ++ 32 ∷ (w ++ 32 ∷ (y ++ rest)) ≡ text ++ rest
    whole x y z rest f g =
        subst (λ (t : List ℕ). x ++ 32 ∷ (w ++ 32 ∷ (y ++ rest)) ≡ t ++ rest) g
        (subst (λ (t : List ℕ). x ++ 32 ∷ (w ++ 32 ∷ (y ++ rest)) ≡ (x ++ t) ++ rest) f
        (sym (simp append_assoc)))

-- a word between its operands, each in parentheses
pub between_parentheses : (w : List ℕ) (left right : Option (List ℕ)) (text : List ℕ) → (parenthesized left ++? (Some (codes " " ++ w ++ codes " ") ++? parenthesized right)) ≡ Some text
    → (x : List ℕ) × (y : List ℕ) × (left ≡ Some x) × (right ≡ Some y) × ((rest : List ℕ) → 40 ∷ (x ++ 41 ∷ 32 ∷ (w ++ 32 ∷ 40 ∷ (y ++ 41 ∷ rest))) ≡ text ++ rest)
between_parentheses w left right text e =
    let parts = between_operands w (parenthesized left) (parenthesized right) text e in
    let front = in_parentheses left parts.0 parts.2 in
    let back = in_parentheses right parts.1 parts.3 in
    (front.0, back.0, front.1, back.1, λ rest. whole front.0 back.0 parts.0 parts.1 rest front.2 back.2 ∙ parts.4 rest)
  where
    whole : (x y a b rest : List ℕ) → 40 ∷ (x ++ 41 ∷ []) ≡ a → 40 ∷ (y ++ 41 ∷ []) ≡ b → 40 ∷ (x ++ 41 ∷ 32 ∷ (w ++ 32 ∷ 40 ∷ (y ++ 41 ∷ rest))) ≡ a ++ 32 ∷ (w ++ 32 ∷ (b ++ rest))
    whole x y a b rest f g =
        subst (λ (t : List ℕ). 40 ∷ (x ++ 41 ∷ 32 ∷ (w ++ 32 ∷ 40 ∷ (y ++ 41 ∷ rest))) ≡ t ++ 32 ∷ (w ++ 32 ∷ (b ++ rest))) f
        (subst (λ (t : List ℕ). 40 ∷ (x ++ 41 ∷ 32 ∷ (w ++ 32 ∷ 40 ∷ (y ++ 41 ∷ rest))) ≡ 40 ∷ (x ++ 41 ∷ []) ++ 32 ∷ (w ++ 32 ∷ (t ++ rest))) g
        (sym (simp append_assoc)))
