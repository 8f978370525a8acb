-- Where a line ends, and what the lines of a text are that begins with a whole one.
use Rattle.sd_lines.proofs.Cited.{All, Bool, Ending, Feed, HasNoEnd, IsFirstByte, List, None, Option, Some, Zero, [], ap, arith, drop, drop_more, end_byte, ended_line, eqb, fails_before_first, false, get_or, get_or-take, is_byte, length, length-slice_split, length-take, lines_between, lines_in, nat_tests, passes_at_first, position_or_len, position_or_len_is, refl, slice_split, slice_split_at, slice_split_none, take, true, unwrap_or, ℕ, ◌++◌, ◌+◌, ◌<◌, ◌∙◌, ◌∷◌, ◌≡◌, ◌≤◌}

abbrev pub ends : Ending → ℕ → Bool
ends ending b = eqb b (end_byte ending)

-- ---- where the first end stands

fails : (b : Bool) → ¬ (b ≡ true) → b ≡ false
fails true isnt = absurd (isnt refl)
fails false isnt = refl

-- the place that a search finds, or else the end
pub place_or_end : (ending : Ending) (xs : List ℕ) (place : Option ℕ) → IsFirstByte (is_byte (end_byte ending)) xs place
    → position_or_len (ends ending) xs ≡ unwrap_or place (length xs)
place_or_end ending xs None nowhere =
    position_or_len_is (ends ending) xs (length xs) 0 (omega arith) (λ k low. fails (ends ending (get_or xs k 0)) (nowhere k (omega arith) low)) (λ low. absurd (omega arith))
place_or_end ending xs (Some i) found =
    position_or_len_is (ends ending) xs i 0 (omega (arith, found.0.high)) (λ k low. fails (ends ending (get_or xs k 0)) (found.0.before k (omega arith) low)) (λ low. found.1)

pub end_at : (ending : Ending) (xs : List ℕ) → position_or_len (ends ending) xs < length xs
    → drop (position_or_len (ends ending) xs) xs ≡ end_byte ending ∷ drop 1 (drop (position_or_len (ends ending) xs) xs)
end_at ending xs low =
    let n = position_or_len (ends ending) xs in
    let first : get_or xs n 0 ≡ end_byte ending = let is = passes_at_first (ends ending) xs 0 low in grind (arith, nat_tests) in
    rw (drop_more xs n 0 low) (ap (λ y. y ∷ drop (n + 1) xs) first)

pub none_before : (ending : Ending) (xs : List ℕ) → HasNoEnd ending (take (position_or_len (ends ending) xs) xs)
none_before ending xs k d low =
    let within : k < position_or_len (ends ending) xs = omega (arith, length-take (position_or_len (ends ending) xs) xs) in
    rw (get_or-take _ xs k d within) (fails_before_first (ends ending) xs k d within)

-- bytes that aren't ASCII end no line
pub none_above : (ending : Ending) (bytes : List ℕ) → All (λ b. 128 ≤ b) bytes → HasNoEnd ending bytes
none_above ending bytes above k d low = by_kind ending (get_or bytes k d) (above k d low) where
  by_kind : (e : Ending) (b : ℕ) → 128 ≤ b → ends e b ≡ false
  by_kind Feed b high = grind (arith, nat_tests)
  by_kind Zero b high = grind (arith, nat_tests)

-- ---- the lines

-- a part before others is a line
before_others : (ending : Ending) (x : List ℕ) (parts : List (List ℕ)) → 0 < length parts
    → lines_between ending (x ∷ parts) ≡ ended_line ending x ∷ lines_between ending parts
before_others ending x [] some = absurd (omega arith)
before_others Feed x (y ∷ parts) some = refl
before_others Zero x (y ∷ parts) some = refl

is_its_end : (ending : Ending) → ends ending (end_byte ending) ≡ true
is_its_end Feed = refl
is_its_end Zero = refl

-- a line that has ended, and those after it
pub lines_cut : (ending : Ending) (line rest : List ℕ) → HasNoEnd ending line
    → lines_in ending (line ++ end_byte ending ∷ rest) ≡ ended_line ending line ∷ lines_in ending rest
lines_cut ending line rest none =
    ap (lines_between ending) (slice_split_at (ends ending) line (end_byte ending) rest none (is_its_end ending))
    ∙ before_others ending line (slice_split (ends ending) rest) (omega (arith, length-slice_split (ends ending) rest))

-- one that hasn't
pub lines_last : (ending : Ending) (line : List ℕ) → HasNoEnd ending line → 0 < length line → lines_in ending line ≡ line ∷ []
lines_last ending line none some = ap (lines_between ending) (slice_split_none (ends ending) line none) ∙ last_part ending line some where
  last_part : (ending : Ending) (w : List ℕ) → 0 < length w → lines_between ending (w ∷ []) ≡ w ∷ []
  last_part Feed w some = grind (arith, nat_tests)
  last_part Zero w some = grind (arith, nat_tests)

pub no_lines : (ending : Ending) → lines_in ending [] ≡ []
no_lines Feed = refl
no_lines Zero = refl
