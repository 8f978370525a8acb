-- The characters at the front of bytes of UTF-16.
use Rattle.sd_lines.proofs.Cited.{ByteOrder, InScalarRange, IsScalar, List, MatchOption, None, Option, OutOfScalarRange, Some, SomeIff, [], and_parts, ap, append_assoc, arith, char_text, false, flat_map, get_or, is_high_surrogate, is_low_surrogate, leb, length, lone_unit_char, ltb, nat_tests, over_in, refl, surrogate_pair_char, true, unfinished, unit, utf16_chars, utf16_chars-nil, utf16_chars_lone, utf16_chars_pair, utf16_text, ℕ, ◌&&◌, ◌++◌, ◌<◌, ◌^◌, ◌∷◌, ◌≡◌, ◌≤◌}

-- ---- the first character

within : (low high u : ℕ) → (leb low u && ltb u high) ≡ true → (low ≤ u) × (u < high)
within low high u is = let both = and_parts (leb low u) (ltb u high) is in (grind (arith, nat_tests), grind (arith, nat_tests))

no_pair : (u v : ℕ) → (is_high_surrogate u && is_low_surrogate v) ≡ false → 0xD800 ≤ u → u < 0xDC00 → 0xDC00 ≤ v → v < 0xE000 → ⊥
no_pair u v tests one two three four = grind (arith, nat_tests)

pub no_char : (u : ℕ) → is_high_surrogate u ≡ true → lone_unit_char u ≡ None
no_char u high = let range = within 0xD800 0xDC00 u high in grind (arith, nat_tests)

pub lone : (u : ℕ) (us over : List ℕ) → (is_high_surrogate u && is_low_surrogate (get_or us 0 0)) ≡ false
    → flat_map char_text (utf16_chars (u ∷ us)) ++ over ≡ char_text (lone_unit_char u) ++ (flat_map char_text (utf16_chars us) ++ over)
lone u us over tests =
    rw (utf16_chars_lone u us (λ pair. no_pair u _ tests pair.0 pair.1 pair.2 pair.3))
    (append_assoc (char_text (lone_unit_char u)) (flat_map char_text (utf16_chars us)) over)

pub pair : (u v : ℕ) (us over : List ℕ) → is_high_surrogate u ≡ true → is_low_surrogate v ≡ true
    → flat_map char_text (utf16_chars (u ∷ v ∷ us)) ++ over ≡ char_text (Some (surrogate_pair_char u v)) ++ (flat_map char_text (utf16_chars us) ++ over)
pair u v us over high low =
    let one = within 0xD800 0xDC00 u high in
    let two = within 0xDC00 0xE000 v low in
    rw (utf16_chars_pair u v us (one.0, one.1, two.0, two.1))
    (append_assoc (char_text (Some (surrogate_pair_char u v))) (flat_map char_text (utf16_chars us)) over)

-- ---- a unit as a character

pub lone_is : (found : Option ℕ) (u : ℕ) → u < 2 ^ 16 → SomeIff found (IsScalar u) u
    → MatchOption found (OutOfScalarRange u) (λ c. InScalarRange u) → found ≡ lone_unit_char u
lone_is None u low only cases = grind (arith, nat_tests)
lone_is (Some c) u low only cases = rw (only.1) (grind (arith, nat_tests))

pub pair_is : (found : Option ℕ) (c : ℕ) → 0x10000 ≤ c → c < 0x110000 → SomeIff found (IsScalar c) c
    → MatchOption found (OutOfScalarRange c) (λ x. InScalarRange c) → found ≡ Some c
pair_is None c low high only cases = absurd (grind (arith, nat_tests))
pair_is (Some x) c low high only cases = ap Some only.1

-- ---- no whole character

pub too_short : (order : ByteOrder) (bytes : List ℕ) → length bytes < 2 → utf16_text order bytes ≡ unfinished bytes
too_short order [] short = rw utf16_chars-nil refl
too_short order (a ∷ []) short = rw utf16_chars-nil refl
too_short order (a ∷ b ∷ rest) short = absurd (omega arith)

pub too_short_pair : (order : ByteOrder) (a b : ℕ) (after : List ℕ) → length after < 2
    → is_high_surrogate (unit order a b) ≡ true → utf16_text order (a ∷ b ∷ after) ≡ unfinished (a ∷ b ∷ after)
too_short_pair order a b [] short high = rw (no_char (unit order a b) high, utf16_chars-nil) at (lone (unit order a b) [] [] (rw high refl))
too_short_pair order a b (c ∷ []) short high = rw (no_char (unit order a b) high, utf16_chars-nil) at (lone (unit order a b) [] (over_in (c ∷ [])) (rw high refl))
too_short_pair order a b (c ∷ d ∷ rest) short high = absurd (omega arith)
