-- The lines of a text, taken off one by one.
use Rattle.std.proofs.Common.{◌≡◌, ◌≢◌, ◌++◌, ◌-◌, ◌∙◌, ◌+◌, ◌<◌, ◌≤◌, ◌==◌, ℕ, List, [], ◌∷◌, Bool, true, false, Option, Some, None, length, take, slice_index, refl, ap, sym, arith}
use Rattle.std.proofs.lemmas.Bool.{eqb-true, ltb-true, ltb-false}
use Rattle.std.proofs.Math.Seq.{get_or-append_seam, take-append_seam}
use Rattle.std.proofs.lemmas.List.{take_all, take_more, length-append}
use Rattle.std.proofs.lemmas.List.Sums.{fails_before_first}
use Rattle.std.proofs.lemmas.List.Splits.{slice_split_first, slice_split_none}
use Rattle.std.specs.Borrow.{Bor}
use Rattle.std.specs.List.{after_first, position_or_len}
use Rattle.std.specs.Option.{IfSome, MatchOption, option_copied, unwrap_or}
use Rattle.std.specs.Prelude.{if◌then◌else◌, map, nat_lt}
use Rattle.std.specs.Str.Lines.{strip_carriage_return}
use Rattle.sd_accounts.specs.Row.{after, before, lines_of}

strip_at : (xs : List ℕ) → strip_carriage_return (xs ++ 13 ∷ []) ≡ xs
strip_at xs =
    let len : length (xs ++ 13 ∷ []) - 1 ≡ length xs = omega (arith, length-append xs (13 ∷ [])) in
    rw (len, get_or-append_seam xs 13 [] 0) (take-append_seam xs (13 ∷ []))

shows : (l : List ℕ) → slice_index l (length l - 1) ≡ 13 → l ≡ take (length l - 1) l ++ 13 ∷ []
shows [] e = absurd (omega (arith, e))
shows (x ∷ xs) e =
    let k = length (x ∷ xs) - 1 in
    sym (take_all (k + 1) (x ∷ xs) (omega arith)) ∙ take_more (x ∷ xs) k 0 (omega arith) ∙ ap (λ b. take k (x ∷ xs) ++ b ∷ []) e

-- the one carriage return is taken off, where there is one
pub stripped : (line : Bor (List ℕ)) (front : Option (Bor (List ℕ)))
    → MatchOption front ((xs : List ℕ) → line.now ≢ xs ++ (13 ∷ [])) (λ x. line.now ≡ x.now ++ (13 ∷ []))
    → (unwrap_or front line).now ≡ strip_carriage_return line.now
stripped line (Some front) is = sym (ap strip_carriage_return is ∙ strip_at front.now)
stripped line None none = by (slice_index line.now (length line.now - 1) == 13) refl
  where
    by : (b : Bool) → (slice_index line.now (length line.now - 1) == 13) ≡ b → line.now ≡ strip_carriage_return line.now
    by true e = absurd (none (take (length line.now - 1) line.now) (shows line.now (eqb-true (slice_index line.now (length line.now - 1)) 13 e)))
    by false e = sym (ap (λ t. if t then take (length line.now - 1) line.now else line.now) e)

-- the lines of what is left of a text
abbrev pub lines_left : Option (List ℕ) → List (List ℕ)
lines_left None = []
lines_left (Some text) = lines_of text

-- the first line, and those after it
pub first_line : (text : List ℕ) → lines_of text ≡ strip_carriage_return (before 10 text) ∷ lines_left (after 10 text)
first_line text = by (nat_lt (position_or_len (λ b. b == 10) text) (length text)) refl
  where
    by : (t : Bool) → nat_lt (position_or_len (λ b. b == 10) text) (length text) ≡ t → lines_of text ≡ strip_carriage_return (before 10 text) ∷ lines_left (after 10 text)
    by true e =
        ap (map strip_carriage_return) (slice_split_first (λ b. b == 10) text 0 (ltb-true (position_or_len (λ b. b == 10) text) (length text) e))
        ∙ ap (λ t. strip_carriage_return (before 10 text) ∷ lines_left (if t then Some (after_first (λ b. b == 10) text) else None)) (sym e)
    by false e =
        let past = ltb-false (position_or_len (λ b. b == 10) text) (length text) e in
        ap (map strip_carriage_return) (slice_split_none (λ b. b == 10) text (λ k d low. fails_before_first (λ b. b == 10) text k d (omega arith)))
        ∙ ap (λ l. strip_carriage_return l ∷ []) (sym (take_all (position_or_len (λ b. b == 10) text) text past))
        ∙ ap (λ t. strip_carriage_return (before 10 text) ∷ lines_left (if t then Some (after_first (λ b. b == 10) text) else None)) (sym e)

-- how much is left of a text
abbrev pub left_len : Option (List ℕ) → ℕ
left_len None = 0
left_len (Some text) = length text + 1

-- the next line is cut off
pub next_line : (whole text part line : List ℕ) (done : List (List ℕ)) (left rest : Option (List ℕ)) → lines_of whole ≡ done ++ lines_left left → left ≡ Some text
    → part ≡ before 10 text → line ≡ strip_carriage_return part → rest ≡ after 10 text → lines_of whole ≡ done ++ line ∷ lines_left rest
next_line whole text part line done left rest parts is front stripped behind =
    parts ∙ ap (λ l. done ++ lines_left l) is ∙ ap (λ ls. done ++ ls) (first_line text)
    ∙ ap (λ l. done ++ l ∷ lines_left (after 10 text)) (sym (stripped ∙ ap strip_carriage_return front)) ∙ ap (λ r. done ++ line ∷ lines_left r) (sym behind)

-- less is left
pub less_left : (rest : Option (Bor (List ℕ))) (text : List ℕ) → IfSome rest (λ r. length r.now < length text) → left_len (option_copied rest) ≤ length text
less_left None text less = omega arith
less_left (Some r) text less = omega arith
