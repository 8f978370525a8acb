-- What is parsed of bytes is a claim, whose numbers have the bits that they may have.
use Rattle.std.proofs.Common.{List, Option, Some, [], arith, ap, length, subst, suc, zero, ℕ, ◌%◌, ◌*◌, ◌+◌, ◌-◌, ◌/◌, ◌<◌, ◌^◌, ◌∷◌, ◌≡◌}
use Rattle.std.proofs.Common.{get_or}
use Rattle.std.proofs.Math.Facts.{Fits-of_lt, sfits_to_z}
use Rattle.std.specs.Prelude.{map, slice_range, ◌==◌}
use Rattle.std.specs.Int.{from_le_bytes, w64}
use Rattle.std.specs.List.{AllByRecursion, range_with_len}
use Rattle.sd_data.proofs.Found.{bound, held, some_is}
use Rattle.sd_claim.specs.Claim.{ClaimValue, claim_value}
use Rattle.sd_claim.specs.Laws.{IsClaim, IsValue}
use Rattle.sd_data.specs.Writing.{AreOctets, AreUnits}
use Rattle.sd_data.specs.Outcome.{◌>>=◌}
use Rattle.sd_claim.specs.Reading.{claim_of, claim_read, header_read, name_read, part_len, room_of, text_of_part, value_at, value_read, values_read}
use Rattle.sd_data.specs.Reading.{after, i64_at, text_read, u16_at, u64_at}
use Rattle.sd_claim.specs.Table.{layout_of}
use Rattle.sd_claim.specs.Writing.{is_claim}
use Rattle.sd_claim.specs.declared.value.Value.{Value}
use Rattle.sd_claim.specs.declared.value.Value.TheVariants as values
use Rattle.sd_claim.specs.declared.value_type.ValueType.{ValueType}
use Rattle.sd_claim.specs.declared.value_type.ValueType.TheVariants as types
use Rattle.sd_sid.proofs.SidWords.{cells_fit}
use Rattle.sd_sid.specs.SidBytes.{u32_at, u32s_at}
use Rattle.sd_claim_laws.specs.Laws.{ParsedIsAClaim}

abbrev IsBytes : List ℕ → Type 0
IsBytes bytes = (i : ℕ) → get_or bytes i 0 < 256

-- ---- contents

units_small : (bytes : List ℕ) (a n : ℕ) → IsBytes bytes → AreUnits (map (λ k. u16_at bytes (2 * k)) (range_with_len a n))
units_small bytes a zero fits = tt
units_small bytes a (suc n) fits = (omega (arith, fits (2 * a), fits (2 * a + 1)), units_small bytes (a + 1) n fits)

text_sound : (bytes units : List ℕ) → IsBytes bytes → text_read bytes ≡ Some units → AreUnits units
unfolding text_read
text_sound bytes units fits e =
    let read : List ℕ = map (λ k. u16_at bytes (2 * k)) (range_with_len 0 (length bytes / 2)) in
    let found = held (length bytes % 2 == 0) (Some read) units e in
    subst AreUnits (some_is read units found.1) (units_small bytes 0 (length bytes / 2) fits)

part_sound : (part units : List ℕ) → IsBytes part → text_of_part part ≡ Some units → AreUnits units
part_sound part units fits e = text_sound (slice_range part 0 (length part - 2)) units (cells_fit part 0 (length part - 2 - 0) fits) e

pub octets_small : (bytes : List ℕ) → IsBytes bytes → AreOctets bytes
octets_small [] fits = tt
octets_small (x ∷ xs) fits = (fits 0, octets_small xs (λ i. fits (suc i)))

-- ---- values

value_sound : (value_type : ValueType) (part : List ℕ) (v : Value) → IsBytes part → value_read value_type part ≡ Some v → IsValue v
unfolding value_read
value_sound types.Integer part v fits e =
    let number = from_le_bytes w64 (get_or part 0 0 ∷ get_or part 1 0 ∷ get_or part 2 0 ∷ get_or part 3 0 ∷ get_or part 4 0 ∷ get_or part 5 0 ∷ get_or part 6 0 ∷ get_or part 7 0 ∷ []) in
    let small : number < 2 ^ 64 = omega (arith, fits 0, fits 1, fits 2, fits 3, fits 4, fits 5, fits 6, fits 7) in
    subst IsValue (some_is (values.Integer (i64_at part 0)) v e) (sfits_to_z (Fits-of_lt {w = w64} small))
value_sound types.Unsigned part v fits e =
    subst IsValue (some_is (values.Unsigned (u64_at part 0)) v e) (omega (arith, fits 0, fits 1, fits 2, fits 3, fits 4, fits 5, fits 6, fits 7))
value_sound types.Text part v fits e =
    let text = bound (text_of_part part) (λ text. Some (values.Text text)) v e in
    subst IsValue (some_is (values.Text text.0) v text.2) (part_sound part text.0 fits text.1)
value_sound types.Sid part v fits e = subst IsValue (some_is (values.Sid (after 4 part)) v e) (octets_small (after 4 part) (cells_fit part 4 (length part - 4) fits))
value_sound types.Boolean part v fits e =
    subst IsValue (some_is (values.Boolean (u64_at part 0)) v e) (omega (arith, fits 0, fits 1, fits 2, fits 3, fits 4, fits 5, fits 6, fits 7))
value_sound types.Octets part v fits e = subst IsValue (some_is (values.Octets (after 4 part)) v e) (octets_small (after 4 part) (cells_fit part 4 (length part - 4) fits))

at_sound : (value_type : ValueType) (bytes : List ℕ) (o room : ℕ) (x : Value × ℕ) → IsBytes bytes → value_at value_type bytes o room ≡ Some x → IsValue x.0
unfolding value_at
at_sound value_type bytes o room x fits e =
    let part = bound (part_len (layout_of value_type) bytes o room) (λ n. value_read value_type (slice_range bytes o (o + n)) >>= λ value. Some (value, n)) x e in
    let value = bound (value_read value_type (slice_range bytes o (o + part.0))) (λ value. Some (value, part.0)) x part.2 in
    let is : value.0 ≡ x.0 = ap (λ (pair : Value × ℕ). pair.0) (some_is (value.0, part.0) x value.2) in
    subst IsValue is (value_sound value_type (slice_range bytes o (o + part.0)) value.0 (cells_fit bytes o (o + part.0 - o) fits) value.1)

values_sound : (value_type : ValueType) (bytes : List ℕ) (room : ℕ) (offsets : List ℕ) (vs : List Value) → IsBytes bytes → values_read value_type bytes room offsets ≡ Some vs → AllByRecursion IsValue vs
values_sound value_type bytes room [] vs fits e = subst (λ (all : List Value). AllByRecursion IsValue all) (some_is [] vs e) tt
values_sound value_type bytes room (o ∷ offsets) vs fits e =
    let first = bound (value_at value_type bytes o room) (λ x. values_read value_type bytes (room - x.1) offsets >>= λ others. Some (x.0 ∷ others)) vs e in
    let others = bound (values_read value_type bytes (room - first.0.1) offsets) (λ others. Some (first.0.0 ∷ others)) vs first.2 in
    subst (λ (all : List Value). AllByRecursion IsValue all) (some_is (first.0.0 ∷ others.0) vs others.2)
    (at_sound value_type bytes o room first.0 fits first.1, values_sound value_type bytes (room - first.0.1) offsets others.0 fits others.1)

-- ---- claims

name_sound : (bytes : List ℕ) (x : List ℕ × ℕ) → IsBytes bytes → name_read bytes ≡ Some x → AreUnits x.0
unfolding name_read
name_sound bytes x fits e =
    let o = u32_at bytes 0 in
    let part = bound (part_len (layout_of types.Text) bytes o (room_of bytes)) (λ n. text_of_part (slice_range bytes o (o + n)) >>= λ name. Some (name, n)) x e in
    let name = bound (text_of_part (slice_range bytes o (o + part.0))) (λ name. Some (name, part.0)) x part.2 in
    let is : name.0 ≡ x.0 = ap (λ (pair : List ℕ × ℕ). pair.0) (some_is (name.0, part.0) x name.2) in
    subst AreUnits is (part_sound (slice_range bytes o (o + part.0)) name.0 (cells_fit bytes o (o + part.0 - o) fits) name.1)

pub parsed_claim : ParsedIsAClaim
unfolding claim_read
parsed_claim bytes c fits e =
    let made : ValueType → List ℕ → List Value → ClaimValue = λ value_type name vs. claim_value name (u32_at bytes 8) value_type vs in
    let with_values : ValueType → List ℕ × ℕ → Option ClaimValue =
    λ value_type name. values_read value_type bytes (room_of bytes - name.1) (u32s_at bytes 16 (u32_at bytes 12)) >>= λ vs. claim_of (made value_type name.0 vs) in
    let header = bound (header_read bytes) (λ value_type. name_read bytes >>= with_values value_type) c e in
    let name = bound (name_read bytes) (with_values header.0) c header.2 in
    let vs = bound (values_read header.0 bytes (room_of bytes - name.0.1) (u32s_at bytes 16 (u32_at bytes 12))) (λ vs. claim_of (made header.0 name.0.0 vs)) c name.2 in
    let whole = held (is_claim (made header.0 name.0.0 vs.0)) (Some (made header.0 name.0.0 vs.0)) c vs.2 in
    subst IsClaim {x = made header.0 name.0.0 vs.0} (some_is (made header.0 name.0.0 vs.0) c whole.1) (record {
      name = name_sound bytes name.0 fits name.1;
      flags = omega (arith, fits 8, fits 9, fits 10, fits 11);
      values = values_sound header.0 bytes (room_of bytes - name.0.1) (u32s_at bytes 16 (u32_at bytes 12)) vs.0 fits vs.1;
      is = whole.0;
    })
