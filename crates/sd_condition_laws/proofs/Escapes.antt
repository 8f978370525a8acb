-- The text of a unit of a name with a prefix is parsed as the unit.
use Rattle.std.proofs.Common.{List, Ok, [], arith, drop, false, inl, inr, length, refl, suc, true, ℕ, ◌%◌, ◌*◌, ◌++◌, ◌+◌, ◌/◌, ◌<◌, ◌^◌, ◌∷◌, ◌≡◌}
use Rattle.std.proofs.lemmas.Bool.{cases_Bool, le-leb, lt-ltb}
use Rattle.std.proofs.lemmas.Str.{digit_value-digit_char}
use Rattle.std.specs.Char.{digit_char, digit_value}
use Rattle.std.specs.Prelude.{slice_index, ◌==◌}
use Rattle.sd_condition_parse.specs.Attribute.{escaped_unit, is_escape, unit_step}
use Rattle.sd_condition_text.specs.Attribute.{escape, is_literal, unit_text}

value_of : (d : ℕ) → d < 16 → digit_value (digit_char d) ≡ d
value_of d few = digit_value-digit_char d (omega arith)

escape_is : (unit : ℕ) (rest : List ℕ) → unit < 2 ^ 16 → (unit == 0) ≡ false → (is_escape (escape unit ++ rest) ≡ true) × (escaped_unit (escape unit ++ rest) ≡ unit)
escape_is unit rest few some =
    let a = unit / 0x1000 % 16 in
    let b = unit / 0x100 % 16 in
    let c = unit / 0x10 % 16 in
    let d = unit / 1 % 16 in
    let whole : a * 4096 + b * 256 + c * 16 + d ≡ unit = omega arith in
    rw (value_of a (omega arith), value_of b (omega arith), value_of c (omega arith), value_of d (omega arith), whole)
    (rw (le-leb 5 (suc (suc (suc (suc (suc (length rest)))))) (omega arith), lt-ltb a 16 (omega arith), lt-ltb b 16 (omega arith), lt-ltb c 16 (omega arith), lt-ltb d 16 (omega arith), some) refl, refl)

pub unit_read : (before : List ℕ) (unit : ℕ) (rest : List ℕ) → unit < 2 ^ 16 → (unit == 0) ≡ false → unit_step before (unit_text unit ++ rest) ≡ Ok ((true, before ++ unit ∷ []), rest)
unit_read before unit rest few some =
    elim (cases_Bool (is_literal unit)) [
      | inl h ↦ rw h (rw h refl)
      | inr h ↦
          let is = escape_is unit rest few some in
          rw h (by_escape (escape unit ++ rest) refl is.0 is.1 refl)
    ]
  where
    by_escape : (text : List ℕ) → slice_index text 0 ≡ 0x25 → is_escape text ≡ true → escaped_unit text ≡ unit → drop 5 text ≡ rest → unit_step before text ≡ Ok ((true, before ++ unit ∷ []), rest)
    by_escape text first is same behind = rw (first, is, same, behind) refl
