-- Units of UTF-16 without a lone surrogate are those of the characters that they spell.
use Rattle.std.proofs.Common.{List, Some, [], arith, false, inl, inr, refl, true, ℕ, ◌*◌, ◌+◌, ◌-◌, ◌<◌, ◌^◌, ◌∙◌, ◌∷◌, ◌≡◌, ◌≤◌}
use Rattle.std.specs.Prelude.{Bool, is_some, nat_le, nat_lt, not, ◌&&◌, ◌==◌, ◌||◌}
use Rattle.std.specs.Char.Escape.{encode_utf16}
use Rattle.std.specs.Char.Utf16.{has_unpaired_surrogate, is_high_surrogate, is_low_surrogate, lone_unit_char, surrogate_pair_char, utf16_chars, utf16_lossy_chars}
use Rattle.std.specs.List.{AllByRecursion, flat_map, list_any}
use Rattle.std.specs.Str.{NonePass, all_scalars}
use Rattle.std.proofs.lemmas.Bool.{and_parts, le-leb, le-ltb, lt-ltb, leb-false, leb-true, ltb-false, ltb-true, ne_eqb}
use Rattle.sd_text.proofs.Parts.{went}
use Rattle.sd_condition_text.specs.Value.{is_unquotable}

-- ---- tests

or_false : (a b : Bool) → (a || b) ≡ false → (a ≡ false) × (b ≡ false)
or_false true b e = absurd cc
or_false false b e = (refl, e)

-- a character that needs two units
large_plain : (c : ℕ) → 0x1_0000 ≤ c → (c == 0x22 || c == 0) ≡ false
large_plain c large = rw (ne_eqb c 0x22 (omega arith), ne_eqb c 0 (omega arith)) refl

small_plain : (u : ℕ) → is_unquotable u ≡ false → (u == 0x22 || u == 0) ≡ false
small_plain u e =
    let first = or_false (u == 0x22) (nat_lt u 0x20 || (nat_le 0x7f u && nat_le u 0x9f) || (nat_le 0x2028 u && nat_le u 0x2029)) e in
    let low = by_cases (nat_lt u 0x20) (nat_le 0x7f u && nat_le u 0x9f) (nat_le 0x2028 u && nat_le u 0x2029) first.1 in
    let some = ltb-false u 0x20 low in
    rw (first.0, ne_eqb u 0 (omega arith)) refl
  where
    by_cases : (a b c : Bool) → (a || b || c) ≡ false → a ≡ false
    by_cases true b c e = e
    by_cases false b c e = refl

-- ---- characters

-- a unit that stands alone
lone : (u : ℕ) → u < 2 ^ 16 → not (is_some (lone_unit_char u)) ≡ false → (lone_unit_char u ≡ Some u) × ((cs : List ℕ) → all_scalars (u ∷ cs) ≡ all_scalars cs)
lone u lt e =
    elim (went (nat_le 0xD800 u && nat_lt u 0xE000)) [
      | inl h ↦ absurd (let no = rw h at e in cc)
      | inr h ↦ (
        rw h refl,
        λ cs. elim (went (nat_le 0xD800 u)) [
          | inl k ↦ let high = ltb-false u 0xE000 (rw k at h) in rw (le-ltb u 55296 (omega arith), le-leb 57344 u high, lt-ltb u 1114112 (omega arith)) refl
          | inr k ↦ let low = leb-false 0xD800 u k in rw (lt-ltb u 55296 low) refl
        ],
      )
    ]

one_unit : (u : ℕ) → u < 2 ^ 16 → encode_utf16 u ≡ u ∷ []
one_unit u lt = rw (lt-ltb u 0x1_0000 lt) refl

-- a pair of surrogates
pub record IsOfPair (u v c : ℕ) : Type 0 where
  pub units : encode_utf16 c ≡ u ∷ v ∷ []
  pub scalar : (cs : List ℕ) → all_scalars (c ∷ cs) ≡ all_scalars cs
  pub large : 0x1_0000 ≤ c

pair : (u v : ℕ) → (is_high_surrogate u && is_low_surrogate v) ≡ true → IsOfPair u v (surrogate_pair_char u v)
pair u v e =
    let both = and_parts (is_high_surrogate u) (is_low_surrogate v) e in
    let high = and_parts (nat_le 0xD800 u) (nat_lt u 0xDC00) both.0 in
    let low = and_parts (nat_le 0xDC00 v) (nat_lt v 0xE000) both.1 in
    made u v (leb-true 0xD800 u high.0) (ltb-true u 0xDC00 high.1) (leb-true 0xDC00 v low.0) (ltb-true v 0xE000 low.1)
  where
    units_of : (u v c : ℕ) → 0xD800 ≤ u → u < 0xDC00 → 0xDC00 ≤ v → v < 0xE000 → c ≡ 0x1_0000 + (u - 0xD800) * 0x400 + (v - 0xDC00) → encode_utf16 c ≡ u ∷ v ∷ []
    units_of u v c a b d f is = let large : 0x1_0000 ≤ c = omega arith in rw (le-ltb c 0x1_0000 large) (two_same u v _ _ (omega arith) (omega arith))
      where
        two_same : (u v x y : ℕ) → x ≡ u → y ≡ v → x ∷ y ∷ [] ≡ u ∷ v ∷ []
        two_same u v x y a b = rw (a, b) refl

    made : (u v : ℕ) → 0xD800 ≤ u → u < 0xDC00 → 0xDC00 ≤ v → v < 0xE000 → IsOfPair u v (surrogate_pair_char u v)
    made u v a b d f =
        let c = surrogate_pair_char u v in
        let large : 0x1_0000 ≤ c = omega arith in
        let small : c < 0x11_0000 = omega arith in
        record { units = units_of u v c a b d f refl; scalar = λ cs. rw (le-ltb c 55296 (omega arith), le-leb 57344 c (omega arith), lt-ltb c 1114112 small) refl; large = large }

-- ---- texts

-- these are the characters, of which none ends a text
pub record AreSpelled (units cs : List ℕ) : Type 0 where
  pub same : flat_map encode_utf16 cs ≡ units
  pub scalars : all_scalars cs ≡ true
  pub plain : NonePass (λ c. c == 0x22 || c == 0) cs

one_more : (u : ℕ) (units cs : List ℕ) → encode_utf16 u ≡ u ∷ [] → ((more : List ℕ) → all_scalars (u ∷ more) ≡ all_scalars more) → (u == 0x22 || u == 0) ≡ false → AreSpelled units cs → AreSpelled (u ∷ units) (u ∷ cs)
one_more u units cs unit scalar plain are = record { same = rw (unit, are.same) refl; scalars = scalar cs ∙ are.scalars; plain = (plain, are.plain) }

two_more : (u v c : ℕ) (units cs : List ℕ) → IsOfPair u v c → AreSpelled units cs → AreSpelled (u ∷ v ∷ units) (c ∷ cs)
two_more u v c units cs is are = record { same = rw (is.units, are.same) refl; scalars = is.scalar cs ∙ are.scalars; plain = (large_plain c is.large, are.plain) }

pub spelled : (units : List ℕ) → AllByRecursion (λ unit. unit < 2 ^ 16) units → has_unpaired_surrogate units ≡ false → list_any is_unquotable units ≡ false → AreSpelled units (utf16_lossy_chars units)
unfolding utf16_chars
spelled [] are paired plain = record { same = refl; scalars = refl; plain = tt }
spelled (u ∷ []) are paired plain =
    let alone = lone u are.0 (or_false (not (is_some (lone_unit_char u))) false paired).0 in
    rw (alone.0) (one_more u [] [] (one_unit u are.0) alone.1 (small_plain u (or_false (is_unquotable u) false plain).0) (record { same = refl; scalars = refl; plain = tt }))
spelled (u ∷ v ∷ units) are paired plain =
    let here = or_false (is_unquotable u) (list_any is_unquotable (v ∷ units)) plain in
    elim (went (is_high_surrogate u && is_low_surrogate v)) [
      | inl h ↦
          let later = or_false (is_unquotable v) (list_any is_unquotable units) here.1 in
          rw h (two_more u v (surrogate_pair_char u v) units (utf16_lossy_chars units) (pair u v h) (spelled units are.1.1 (rw h at paired) later.1))
      | inr h ↦
          let both = or_false (not (is_some (lone_unit_char u))) (has_unpaired_surrogate (v ∷ units)) (rw h at paired) in
          let alone = lone u are.0 both.0 in
          rw (h, alone.0) (one_more u (v ∷ units) (utf16_lossy_chars (v ∷ units)) (one_unit u are.0) alone.1 (small_plain u here.0) (spelled (v ∷ units) are.1 both.1 here.1))
    ]
