-- What is written of a name or a value is parsed again, whatever precedes and follows it.
use Rattle.sd_claim.proofs.Cited.{AreUnits, IsValue, Layout, List, Option, Some, Value, [], and_parts, ap, arith, cast_unsigned, drop, drop_at, false, from_le_bytes, from_le_bytes-to_le_bytes_2, from_le_bytes-to_le_bytes_4, from_le_bytes-to_le_bytes_8, front_len, has_no_zero, is_value, layout_of, le-ltb, length, length-append, nat_lt, not, not-true, number_len, octet_string, octet_string_len, refl, slice_range, sym, take, take_at, terminated, text_bytes, text_of_part, to_le_bytes, true, type_of, u32_at, w16, w32, w64, ℕ, ◌*◌, ◌++◌, ◌+◌, ◌-◌, ◌<◌, ◌==◌, ◌>>=◌, ◌^◌, ◌∙◌, ◌∷◌, ◌≡◌, ◌≤◌}
use Rattle.sd_claim.proofs.Lengths.{length_of_terminated}
use Rattle.sd_data.proofs.TextsComeBack.{after_part, signed_again, text_again}
use Rattle.sd_data.proofs.Lengths.{length_of_text}
use Rattle.sd_claim.specs.Reading.{part_len, terminated_len, value_at, value_read}
use Rattle.sd_data.specs.Reading.{text_read}
use Rattle.sd_claim.specs.Writing.{value_bytes}
use Rattle.sd_claim.specs.declared.value.Value.TheVariants as values

-- ---- texts

pub part_text_again : (units : List ℕ) → AreUnits units → text_of_part (terminated units) ≡ Some units
part_text_again units are =
    let sized : length (terminated units) - 2 - 0 ≡ length (text_bytes units) = omega (arith, length_of_text units, length_of_terminated units) in
    ap (λ n. text_read (take n (terminated units))) sized
    ∙ ap text_read (take_at (text_bytes units) (0 ∷ 0 ∷ []) (length (text_bytes units)) refl)
    ∙ text_again units are

unit_more : (unit : ℕ) (bytes : List ℕ) → unit < 2 ^ 16 → (unit == 0) ≡ false → terminated_len (to_le_bytes w16 unit ++ bytes) ≡ (terminated_len bytes >>= λ n. Some (2 + n))
unfolding terminated_len
unit_more unit bytes small more =
    let same : (from_le_bytes w16 (to_le_bytes w16 unit) == 0) ≡ false = ap (λ n. n == 0) (from_le_bytes-to_le_bytes_2 unit small) ∙ more in
    rw same refl

no_unit : (rest : List ℕ) → terminated_len (0 ∷ 0 ∷ rest) ≡ Some 2
unfolding terminated_len
no_unit rest = refl

units_len : (units rest : List ℕ) → AreUnits units → has_no_zero units ≡ true → terminated_len (terminated units ++ rest) ≡ Some (2 * length units + 2)
units_len [] rest are is = no_unit rest
units_len (unit ∷ units) rest are is =
    let parts = and_parts (not (unit == 0)) (has_no_zero units) is in
    unit_more unit (terminated units ++ rest) are.0 (not-true (unit == 0) parts.0)
    ∙ ap (λ (len : Option ℕ). len >>= λ n. Some (2 + n)) (units_len units rest are.1 parts.1)
    ∙ ap (λ n. Some n) (omega arith)

pub text_len_again : (units rest : List ℕ) → AreUnits units → has_no_zero units ≡ true → terminated_len (terminated units ++ rest) ≡ Some (length (terminated units))
text_len_again units rest are is = units_len units rest are is ∙ ap (λ n. Some n) (sym (length_of_terminated units))

-- ---- parts

pub part_again : (layout : Layout) (front part rest : List ℕ) (room : ℕ) → front_len layout (part ++ rest) ≡ Some (length part) → length part ≤ room
    → part_len layout (front ++ (part ++ rest)) (length front) room ≡ Some (length part)
unfolding part_len
part_again layout front part rest room len fits =
    let within : nat_lt (length (front ++ (part ++ rest))) (length front) ≡ false = le-ltb _ _ (omega (arith, length-append front (part ++ rest))) in
    let enough : nat_lt room (length part) ≡ false = le-ltb _ _ fits in
    rw (within, after_part front (part ++ rest), len, enough) refl

pub part_is : (front part rest : List ℕ) → slice_range (front ++ (part ++ rest)) (length front) (length front + length part) ≡ part
part_is front part rest =
    ap (λ n. take n (drop (length front) (front ++ (part ++ rest)))) (omega arith)
    ∙ ap (take (length part)) (drop_at front (part ++ rest) (length front) refl)
    ∙ take_at part rest (length part) refl

-- ---- values

number_front : (part rest : List ℕ) → length part ≡ 8 → number_len (part ++ rest) ≡ Some (length part)
number_front part rest eight =
    let long : nat_lt (length (part ++ rest)) 8 ≡ false = le-ltb _ _ (omega (arith, length-append part rest)) in
    rw (long, eight) refl

octets_front : (octets rest : List ℕ) → length (octet_string octets) ≤ 65535 → octet_string_len (octet_string octets ++ rest) ≡ Some (length (octet_string octets))
octets_front octets rest small =
    let bytes = octet_string octets ++ rest in
    let long : nat_lt (length bytes) 4 ≡ false = le-ltb _ _ (omega arith) in
    let number : u32_at bytes 0 ≡ length octets = from_le_bytes-to_le_bytes_4 (length octets) (omega arith) in
    let within : nat_lt (length bytes) (4 + length octets) ≡ false = le-ltb _ _ (omega (arith, length-append octets rest)) in
    rw (long, number, within) (ap (λ n. Some n) (omega arith))

pub value_front : (v : Value) (rest : List ℕ) → IsValue v → is_value v ≡ true → length (value_bytes v) ≤ 65535
    → front_len (layout_of (type_of v)) (value_bytes v ++ rest) ≡ Some (length (value_bytes v))
unfolding value_bytes
value_front (values.Integer number) rest is sound small = number_front (to_le_bytes w64 (cast_unsigned w64 number)) rest refl
value_front (values.Unsigned number) rest is sound small = number_front (to_le_bytes w64 number) rest refl
value_front (values.Text text) rest is sound small = text_len_again text rest is sound
value_front (values.Sid octets) rest is sound small = octets_front octets rest small
value_front (values.Boolean number) rest is sound small = number_front (to_le_bytes w64 number) rest refl
value_front (values.Octets octets) rest is sound small = octets_front octets rest small

pub value_read_again : (v : Value) → IsValue v → value_read (type_of v) (value_bytes v) ≡ Some v
unfolding value_read value_bytes
value_read_again (values.Integer number) is =
    ap (λ n. Some (values.Integer n)) (signed_again number is)
value_read_again (values.Unsigned number) is = ap (λ n. Some (values.Unsigned n)) (from_le_bytes-to_le_bytes_8 number is)
value_read_again (values.Text text) is = rw (part_text_again text is) refl
value_read_again (values.Sid octets) is = ap (λ (o : List ℕ). Some (values.Sid o)) (after_part (to_le_bytes w32 (length octets)) octets)
value_read_again (values.Boolean number) is = ap (λ n. Some (values.Boolean n)) (from_le_bytes-to_le_bytes_8 number is)
value_read_again (values.Octets octets) is = ap (λ (o : List ℕ). Some (values.Octets o)) (after_part (to_le_bytes w32 (length octets)) octets)

pub value_again : (v : Value) (front rest : List ℕ) (room : ℕ) → IsValue v → is_value v ≡ true → length (value_bytes v) ≤ 65535 → length (value_bytes v) ≤ room
    → value_at (type_of v) (front ++ (value_bytes v ++ rest)) (length front) room ≡ Some (v, length (value_bytes v))
unfolding value_at
value_again v front rest room is sound small fits =
    let len = part_again (layout_of (type_of v)) front (value_bytes v) rest room (value_front v rest is sound small) fits in
    rw (len, part_is front (value_bytes v) rest, value_read_again v is) refl
