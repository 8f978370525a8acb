-- A claim that is written is parsed again.
use Rattle.sd_claim.proofs.Cited.{All, All-from_recursion, AllByRecursion, AreUnits, ClaimValue, ClaimsComeBack, IsValue, List, Some, Value, ValueType, [], and_parts, ap, append_assoc, arith, claim_len, claim_of, claim_value, false, flat_map, from_le_bytes-to_le_bytes_4, header_len, has_no_zero, is_value, is_value_of, le-ltb, length, length-append, list_all, nat_le, nat_lt, offsets_from, padding_len, part_len, refl, replicate, room_of, same_type, slice_range, subst, sym, terminated, to_le_bytes, true, type_number, type_of, type_read, u16_at, u32_at, u32s_at, value_at, value_bytes, values_place, values_read, w16, w32, words_again, ℕ, ◌&&◌, ◌*◌, ◌++◌, ◌+◌, ◌-◌, ◌<◌, ◌^◌, ◌∙◌, ◌∷◌, ◌≡◌, ◌≤◌}
use Rattle.sd_claim.proofs.Lengths.{claim_fits, length_of_offsets}
use Rattle.sd_claim.proofs.ValuesComeBack.{part_again, part_is, part_text_again, text_len_again, value_again}
use Rattle.sd_claim.specs.Reading.{claim_read, header_read, name_read}
use Rattle.sd_claim.specs.Writing.{claim_bytes, claim_data, is_claim}
use Rattle.sd_claim.specs.declared.value_type.Layout.TheVariants.{TerminatedText}
use Rattle.sd_claim.specs.declared.value_type.ValueType.TheVariants as types

-- ---- types

same_type_is : (a b : ValueType) → same_type a b ≡ true → a ≡ b
same_type_is types.Integer types.Integer same = refl
same_type_is types.Integer types.Unsigned same = absurd cc
same_type_is types.Integer types.Text same = absurd cc
same_type_is types.Integer types.Sid same = absurd cc
same_type_is types.Integer types.Boolean same = absurd cc
same_type_is types.Integer types.Octets same = absurd cc
same_type_is types.Unsigned types.Integer same = absurd cc
same_type_is types.Unsigned types.Unsigned same = refl
same_type_is types.Unsigned types.Text same = absurd cc
same_type_is types.Unsigned types.Sid same = absurd cc
same_type_is types.Unsigned types.Boolean same = absurd cc
same_type_is types.Unsigned types.Octets same = absurd cc
same_type_is types.Text types.Integer same = absurd cc
same_type_is types.Text types.Unsigned same = absurd cc
same_type_is types.Text types.Text same = refl
same_type_is types.Text types.Sid same = absurd cc
same_type_is types.Text types.Boolean same = absurd cc
same_type_is types.Text types.Octets same = absurd cc
same_type_is types.Sid types.Integer same = absurd cc
same_type_is types.Sid types.Unsigned same = absurd cc
same_type_is types.Sid types.Text same = absurd cc
same_type_is types.Sid types.Sid same = refl
same_type_is types.Sid types.Boolean same = absurd cc
same_type_is types.Sid types.Octets same = absurd cc
same_type_is types.Boolean types.Integer same = absurd cc
same_type_is types.Boolean types.Unsigned same = absurd cc
same_type_is types.Boolean types.Text same = absurd cc
same_type_is types.Boolean types.Sid same = absurd cc
same_type_is types.Boolean types.Boolean same = refl
same_type_is types.Boolean types.Octets same = absurd cc
same_type_is types.Octets types.Integer same = absurd cc
same_type_is types.Octets types.Unsigned same = absurd cc
same_type_is types.Octets types.Text same = absurd cc
same_type_is types.Octets types.Sid same = absurd cc
same_type_is types.Octets types.Boolean same = absurd cc
same_type_is types.Octets types.Octets same = refl

-- ---- values

values_next : (value_type : ValueType) (bytes : List ℕ) (room o n : ℕ) (offsets : List ℕ) (v : Value) (vs : List Value) → value_at value_type bytes o room ≡ Some (v, n)
    → values_read value_type bytes (room - n) offsets ≡ Some vs → values_read value_type bytes room (o ∷ offsets) ≡ Some (v ∷ vs)
values_next value_type bytes room o n offsets v vs first others = rw (first, others) refl

values_again : (value_type : ValueType) (front : List ℕ) (vs : List Value) (rest : List ℕ) (room : ℕ) → AllByRecursion IsValue vs → list_all (is_value_of value_type) vs ≡ true
    → length (flat_map value_bytes vs) ≤ 65535 → length (flat_map value_bytes vs) ≤ room
    → values_read value_type (front ++ (flat_map value_bytes vs ++ rest)) room (offsets_from (length front) vs) ≡ Some vs
values_again value_type front [] rest room are sound small fits = refl
values_again value_type front (v ∷ vs) rest room are sound small fits =
    let others = flat_map value_bytes vs in
    let parts = and_parts (is_value_of value_type v) (list_all (is_value_of value_type) vs) sound in
    let this = and_parts (same_type (type_of v) value_type) (is_value v) parts.0 in
    let is : type_of v ≡ value_type = same_type_is (type_of v) value_type this.0 in
    let sized = length-append (value_bytes v) others in
    let bytes : front ++ (flat_map value_bytes (v ∷ vs) ++ rest) ≡ front ++ (value_bytes v ++ (others ++ rest)) = ap (λ (l : List ℕ). front ++ l) (append_assoc (value_bytes v) others rest) in
    let again : front ++ (value_bytes v ++ (others ++ rest)) ≡ (front ++ value_bytes v) ++ (others ++ rest) = sym (append_assoc front (value_bytes v) (others ++ rest)) in
    let place : length front + length (value_bytes v) ≡ length (front ++ value_bytes v) = sym (length-append front (value_bytes v)) in
    let first : value_at value_type (front ++ (value_bytes v ++ (others ++ rest))) (length front) room ≡ Some (v, length (value_bytes v)) =
    subst (λ (t : ValueType). value_at t (front ++ (value_bytes v ++ (others ++ rest))) (length front) room ≡ Some (v, length (value_bytes v))) is
    (value_again v front (others ++ rest) room are.0 this.1 (omega arith) (omega arith)) in
    let later : values_read value_type (front ++ (value_bytes v ++ (others ++ rest))) (room - length (value_bytes v)) (offsets_from (length front + length (value_bytes v)) vs) ≡ Some vs =
    ap (λ (b : List ℕ). values_read value_type b (room - length (value_bytes v)) (offsets_from (length front + length (value_bytes v)) vs)) again
    ∙ ap (λ (o : ℕ). values_read value_type ((front ++ value_bytes v) ++ (others ++ rest)) (room - length (value_bytes v)) (offsets_from o vs)) place
    ∙ values_again value_type (front ++ value_bytes v) vs rest (room - length (value_bytes v)) are.1 parts.1 (omega arith) (omega arith) in
    ap (λ (b : List ℕ). values_read value_type b room (offsets_from (length front) (v ∷ vs))) bytes
    ∙ values_next value_type (front ++ (value_bytes v ++ (others ++ rest))) room (length front) (length (value_bytes v)) (offsets_from (length front + length (value_bytes v)) vs) v vs first later

count_of_offsets : (o : ℕ) (vs : List Value) → length (offsets_from o vs) ≡ length vs
count_of_offsets o [] = refl
count_of_offsets o (v ∷ vs) = omega (arith, count_of_offsets (o + length (value_bytes v)) vs)

offsets_fit : (o : ℕ) (vs : List Value) → o + length (flat_map value_bytes vs) ≤ 65535 → AllByRecursion (λ offset. offset < 2 ^ 32) (offsets_from o vs)
offsets_fit o [] small = tt
offsets_fit o (v ∷ vs) small =
    let sized = length-append (value_bytes v) (flat_map value_bytes vs) in (
      omega arith,
      offsets_fit (o + length (value_bytes v)) vs (omega arith),
    )

-- ---- headers

-- a header of these numbers
abbrev header : ℕ → ValueType → ℕ → ℕ → List ℕ
header first value_type flags count = to_le_bytes w32 first ++ (to_le_bytes w16 (type_number value_type)
    ++ (to_le_bytes w16 0 ++ (to_le_bytes w32 flags ++ to_le_bytes w32 count)))

type_again : (value_type : ValueType) (first flags count : ℕ) (rest : List ℕ) → type_read (u16_at (header first value_type flags count ++ rest) 4) ≡ Some value_type
type_again types.Integer first flags count rest = refl
type_again types.Unsigned first flags count rest = refl
type_again types.Text first flags count rest = refl
type_again types.Sid first flags count rest = refl
type_again types.Boolean first flags count rest = refl
type_again types.Octets first flags count rest = refl

record HasHeader (bytes : List ℕ) (first : ℕ) (value_type : ValueType) (flags count : ℕ) : Type 0 where
  name : u32_at bytes 0 ≡ first
  flags_are : u32_at bytes 8 ≡ flags
  counted : u32_at bytes 12 ≡ count
  read : header_read bytes ≡ Some value_type

header_again : (first : ℕ) (value_type : ValueType) (flags count : ℕ) (rest : List ℕ) → first < 2 ^ 32 → flags < 2 ^ 32 → count < 2 ^ 32 → 4 * count ≤ length rest
    → HasHeader (header first value_type flags count ++ rest) first value_type flags count
unfolding header_read
header_again first value_type flags count rest first_fits flags_fit count_fits room =
    let bytes = header first value_type flags count ++ rest in
    let counted : u32_at bytes 12 ≡ count = from_le_bytes-to_le_bytes_4 count count_fits in
    let long : nat_lt (length bytes) 16 ≡ false = le-ltb _ _ (omega arith) in
    let enough : nat_lt (length bytes) (header_len count) ≡ false = le-ltb _ _ (omega arith) in
    record {
      name = from_le_bytes-to_le_bytes_4 first first_fits;
      flags_are = from_le_bytes-to_le_bytes_4 flags flags_fit;
      counted = counted;
      read = rw (long, counted, enough, type_again value_type first flags count rest) refl;
    }

-- ---- claims

name_again : (front name rest bytes : List ℕ) → bytes ≡ front ++ (terminated name ++ rest) → AreUnits name → has_no_zero name ≡ true → u32_at bytes 0 ≡ length front
    → length (terminated name) ≤ room_of bytes → name_read bytes ≡ Some (name, length (terminated name))
unfolding name_read
name_again front name rest bytes is are sound place fits =
    let part = terminated name in
    let len : part_len TerminatedText bytes (length front) (room_of bytes) ≡ Some (length part) =
    subst (λ (b : List ℕ). part_len TerminatedText b (length front) (room_of bytes) ≡ Some (length part)) (sym is)
    (part_again TerminatedText front part rest (room_of bytes) (text_len_again name rest are sound) fits) in
    let whole : slice_range bytes (length front) (length front + length part) ≡ part = ap (λ (b : List ℕ). slice_range b (length front) (length front + length part)) is ∙ part_is front part rest in
    rw (place, len, whole, part_text_again name are) refl

read_as : (bytes name : List ℕ) (size flags : ℕ) (value_type : ValueType) (vs : List Value) → header_read bytes ≡ Some value_type → name_read bytes ≡ Some (name, size)
    → values_read value_type bytes (room_of bytes - size) (u32s_at bytes 16 (u32_at bytes 12)) ≡ Some vs → u32_at bytes 8 ≡ flags
    → claim_read bytes ≡ claim_of (claim_value name flags value_type vs)
unfolding claim_read
read_as bytes name size flags value_type vs header_is name_is values_are flags_are = rw (header_is, name_is, values_are, flags_are) refl

-- the parts follow one another
from_offsets : (h o n v p : List ℕ) → (h ++ (o ++ (n ++ v))) ++ p ≡ h ++ (o ++ (n ++ (v ++ p)))
from_offsets h o n v p = simp append_assoc refl

-- what a claim's test says of its name and its values
claim_parts : (c : ClaimValue) → is_claim c ≡ true → (has_no_zero c.name ≡ true) × (list_all (is_value_of c.value_type) c.values ≡ true)
unfolding is_claim
claim_parts c is =
    let fits = nat_le (length (claim_data c)) 65535 in
    let outer = and_parts (has_no_zero c.name) (list_all (is_value_of c.value_type) c.values && fits) is in
    (outer.0, (and_parts (list_all (is_value_of c.value_type) c.values) fits outer.1).0)

claim_again : (c : ClaimValue) → is_claim c ≡ true → claim_of c ≡ Some c
claim_again c is = rw is refl

-- the parts of a claim's data
data_parts : (c : ClaimValue) → claim_data c ≡ header (header_len (length c.values)) c.value_type c.flags (length c.values)
    ++ (flat_map (to_le_bytes w32) (offsets_from (values_place c) c.values)
    ++ (terminated c.name ++ (flat_map value_bytes c.values ++ replicate (padding_len (length (claim_bytes c))) 0)))
unfolding claim_data claim_bytes
data_parts c =
    from_offsets (header (header_len (length c.values)) c.value_type c.flags (length c.values)) (flat_map (to_le_bytes w32) (offsets_from (values_place c) c.values))
    (terminated c.name) (flat_map value_bytes c.values) (replicate (padding_len (length (claim_bytes c))) 0)

pub claims_come_back : ClaimsComeBack
claims_come_back c are =
    let n = length c.values in
    let first = header_len n in
    let head : List ℕ = header first c.value_type c.flags n in
    let offsets = offsets_from (values_place c) c.values in
    let offset_bytes : List ℕ = flat_map (to_le_bytes w32) offsets in
    let name : List ℕ = terminated c.name in
    let vs : List ℕ = flat_map value_bytes c.values in
    let padding : List ℕ = replicate (padding_len (length (claim_bytes c))) 0 in
    let bytes = claim_data c in
    let fits : claim_len c.name c.values ≤ 65535 = (claim_fits c are.is).1 in
    let parts = claim_parts c are.is in
    let whole : bytes ≡ head ++ (offset_bytes ++ (name ++ (vs ++ padding))) = data_parts c in
    let by_name : bytes ≡ (head ++ offset_bytes) ++ (name ++ (vs ++ padding)) = whole ∙ sym (append_assoc head offset_bytes (name ++ (vs ++ padding))) in
    let by_values : bytes ≡ ((head ++ offset_bytes) ++ name) ++ (vs ++ padding) = by_name ∙ sym (append_assoc (head ++ offset_bytes) name (vs ++ padding)) in
    let offsets_long : length offset_bytes ≡ 4 * n = length_of_offsets (values_place c) c.values in
    let front_long : length (head ++ offset_bytes) ≡ first = omega (arith, length-append head offset_bytes) in
    let values_long : length ((head ++ offset_bytes) ++ name) ≡ values_place c = omega (arith, length-append (head ++ offset_bytes) name) in
    let sized : length bytes ≡ first + (length name + (length vs + length padding)) =
    ap length by_name ∙ omega (arith, length-append (head ++ offset_bytes) (name ++ (vs ++ padding)), length-append name (vs ++ padding), length-append vs padding) in
    let has : HasHeader bytes first c.value_type c.flags n =
    subst (λ (b : List ℕ). HasHeader b first c.value_type c.flags n) (sym whole)
    (header_again first c.value_type c.flags n (offset_bytes ++ (name ++ (vs ++ padding))) (omega arith) are.flags (omega arith) (omega (arith, length-append offset_bytes (name ++ (vs ++ padding))))) in
    let room : room_of bytes ≡ length name + (length vs + length padding) = ap (λ k. length bytes - header_len k) has.counted ∙ omega arith in
    let name_is = name_again (head ++ offset_bytes) c.name (vs ++ padding) bytes by_name are.name parts.0 (has.name ∙ sym front_long) (omega arith) in
    let counted : length offsets ≡ n = count_of_offsets (values_place c) c.values in
    let small : All (λ offset. offset < 2 ^ 32) offsets = All-from_recursion (λ offset. offset < 2 ^ 32) offsets (offsets_fit (values_place c) c.values (omega arith)) in
    let offsets_read : u32s_at bytes 16 (u32_at bytes 12) ≡ offsets =
    ap (λ k. u32s_at bytes 16 k) (has.counted ∙ sym counted) ∙ ap (λ (b : List ℕ). u32s_at b 16 (length offsets)) whole ∙ words_again head offsets (name ++ (vs ++ padding)) small in
    let values_are : values_read c.value_type bytes (room_of bytes - length name) (u32s_at bytes 16 (u32_at bytes 12)) ≡ Some c.values =
    ap (values_read c.value_type bytes (room_of bytes - length name)) offsets_read
    ∙ ap (λ (o : ℕ). values_read c.value_type bytes (room_of bytes - length name) (offsets_from o c.values)) (sym values_long)
    ∙ ap (λ (b : List ℕ). values_read c.value_type b (room_of bytes - length name) (offsets_from (length ((head ++ offset_bytes) ++ name)) c.values)) by_values
    ∙ values_again c.value_type ((head ++ offset_bytes) ++ name) c.values padding (room_of bytes - length name) are.values parts.1 (omega arith) (omega arith) in
    read_as bytes c.name (length name) c.flags c.value_type c.values has.read name_is values_are has.flags_are ∙ claim_again c are.is
