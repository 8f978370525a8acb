-- What is parsed takes no more bytes than the data has: each part takes no more than there is room for.
use Rattle.sd_data.proofs.Found.{bound, chosen, held, passed, some_is}
use Rattle.sd_claim.proofs.Lengths.{length_of_terminated}
use Rattle.sd_claim.proofs.Cited.{ClaimValue, ClaimsFitTheirData, Layout, List, Option, Some, Value, ValueType, [], after, ap, arith, at_most, claim_len, claim_of, claim_value, drop, flat_map, from_le_bytes, front_len, header_len, i64_at, inl, inr, is_claim, layout_of, least_len, length, length-append, length-drop, length-map-range_with_len, length-take, ltb-false, map, nat_lt, not, octet_string, range_with_len, refl, room_of, slice_range, subst, suc, sym, terminated, text_of_part, type_read, u16_at, u32_at, u32s_at, u64_at, values_read, w16, ℕ, ◌%◌, ◌*◌, ◌+◌, ◌-◌, ◌/◌, ◌==◌, ◌>>=◌, ◌∙◌, ◌∷◌, ◌≡◌, ◌≤◌}
use Rattle.sd_claim.specs.Reading.{claim_read, header_read, name_read, part_len, terminated_len, value_at, value_read}
use Rattle.sd_data.specs.Reading.{text_read}
use Rattle.sd_claim.specs.Writing.{value_bytes}
use Rattle.sd_claim.specs.declared.value.Value.TheVariants as values
use Rattle.sd_claim.specs.declared.value_type.Layout.TheVariants.{Number, TerminatedText, OctetString}
use Rattle.sd_claim.specs.declared.value_type.ValueType.TheVariants as types

-- ---- parts

-- a part is in the bytes, and isn't too short
abbrev IsPart : Layout → List ℕ → ℕ → Type 0
IsPart layout bytes n = (least_len layout ≤ n) × (n ≤ length bytes)

text_part : (bytes : List ℕ) (n : ℕ) → terminated_len bytes ≡ Some n → IsPart TerminatedText bytes n
unfolding terminated_len
text_part [] n e = absurd cc
text_part (low ∷ []) n e = absurd cc
text_part (low ∷ high ∷ rest) n e =
    elim (chosen (from_le_bytes w16 (low ∷ high ∷ []) == 0) (Some 2) (terminated_len rest >>= λ m. Some (2 + m)) n e) [
      | inl h ↦ let is = some_is 2 n h.1 in (omega arith, omega arith)
      | inr h ↦
          let found = bound (terminated_len rest) (λ m. Some (2 + m)) n h.1 in
          let is = some_is (2 + found.0) n found.2 in
          let within = text_part rest found.0 found.1 in
          (omega (arith, within.0), omega (arith, within.1))
    ]

front_part : (layout : Layout) (bytes : List ℕ) (n : ℕ) → front_len layout bytes ≡ Some n → IsPart layout bytes n
front_part Number bytes n e =
    let long = passed (nat_lt (length bytes) 8) (Some 8) n e in
    let is = some_is 8 n long.1 in
    (omega arith, omega (arith, ltb-false _ _ long.0))
front_part TerminatedText bytes n e = text_part bytes n e
front_part OctetString bytes n e =
    let long = passed (nat_lt (length bytes) 4) _ n e in
    let within = passed (nat_lt (length bytes) (4 + u32_at bytes 0)) (Some (4 + u32_at bytes 0)) n long.1 in
    let is = some_is (4 + u32_at bytes 0) n within.1 in
    (omega arith, omega (arith, ltb-false _ _ within.0))

-- there is room for the part that was found, and it is as long as was found
record PartFits (layout : Layout) (bytes : List ℕ) (o room n : ℕ) : Type 0 where
  least : least_len layout ≤ n
  fits : n ≤ room
  sized : length (slice_range bytes o (o + n)) ≡ n

part_fits : (layout : Layout) (bytes : List ℕ) (o room n : ℕ) → part_len layout bytes o room ≡ Some n → PartFits layout bytes o room n
unfolding part_len
part_fits layout bytes o room n e =
    let inside = passed (nat_lt (length bytes) o) (front_len layout (after o bytes) >>= at_most room) n e in
    let front = bound (front_len layout (after o bytes)) (at_most room) n inside.1 in
    let most = passed (nat_lt room front.0) (Some front.0) n front.2 in
    let is : front.0 ≡ n = some_is front.0 n most.1 in
    let part = front_part layout (after o bytes) front.0 front.1 in
    let least : least_len layout ≤ n = subst (λ m. least_len layout ≤ m) is part.0 in
    let behind : length (after o bytes) ≤ length bytes - o = omega (arith, length-take (length bytes - o) (drop o bytes), length-drop o bytes) in
    record {
      least = least;
      fits = omega (arith, ltb-false _ _ most.0);
      sized = omega (arith, part.1, length-take (o + n - o) (drop o bytes), length-drop o bytes, ltb-false _ _ inside.0);
    }

-- ---- values

text_fits : (part units : List ℕ) → 2 ≤ length part → text_of_part part ≡ Some units → length (terminated units) ≤ length part
unfolding text_read
text_fits part units long e =
    let content = slice_range part 0 (length part - 2) in
    let read : List ℕ = map (λ k. u16_at content (2 * k)) (range_with_len 0 (length content / 2)) in
    let found = held (length content % 2 == 0) (Some read) units e in
    let counted : length units ≡ length content / 2 = ap length (sym (some_is read units found.1)) ∙ length-map-range_with_len (λ k. u16_at content (2 * k)) 0 (length content / 2) in
    let sized : length content ≤ length part - 2 = omega (arith, length-take (length part - 2 - 0) part) in
    omega (arith, length_of_terminated units)

octets_fit : (part : List ℕ) → 4 ≤ length part → length (octet_string (after 4 part)) ≤ length part
octets_fit part long = omega (arith, length-take (length part - 4) (drop 4 part), length-drop 4 part)

value_fits : (value_type : ValueType) (part : List ℕ) (v : Value) → least_len (layout_of value_type) ≤ length part → value_read value_type part ≡ Some v
    → length (value_bytes v) ≤ length part
unfolding value_read value_bytes
value_fits types.Integer part v least e = subst (λ (x : Value). length (value_bytes x) ≤ length part) (some_is (values.Integer (i64_at part 0)) v e) least
value_fits types.Unsigned part v least e = subst (λ (x : Value). length (value_bytes x) ≤ length part) (some_is (values.Unsigned (u64_at part 0)) v e) least
value_fits types.Text part v least e =
    let found = bound (text_of_part part) (λ text. Some (values.Text text)) v e in
    subst (λ (x : Value). length (value_bytes x) ≤ length part) (some_is (values.Text found.0) v found.2) (text_fits part found.0 least found.1)
value_fits types.Sid part v least e = subst (λ (x : Value). length (value_bytes x) ≤ length part) (some_is (values.Sid (after 4 part)) v e) (octets_fit part least)
value_fits types.Boolean part v least e = subst (λ (x : Value). length (value_bytes x) ≤ length part) (some_is (values.Boolean (u64_at part 0)) v e) least
value_fits types.Octets part v least e = subst (λ (x : Value). length (value_bytes x) ≤ length part) (some_is (values.Octets (after 4 part)) v e) (octets_fit part least)

-- a value takes no more than what it was found to take, for which there is room
abbrev ValueFits : ℕ → Value × ℕ → Type 0
ValueFits room x = (length (value_bytes x.0) ≤ x.1) × (x.1 ≤ room)

value_at_fits : (value_type : ValueType) (bytes : List ℕ) (o room : ℕ) (x : Value × ℕ) → value_at value_type bytes o room ≡ Some x → ValueFits room x
unfolding value_at
value_at_fits value_type bytes o room x e =
    let part : ℕ → List ℕ = λ n. slice_range bytes o (o + n) in
    let len = bound (part_len (layout_of value_type) bytes o room) (λ n. value_read value_type (part n) >>= λ value. Some (value, n)) x e in
    let value = bound (value_read value_type (part len.0)) (λ value. Some (value, len.0)) x len.2 in
    let fit = part_fits (layout_of value_type) bytes o room len.0 len.1 in
    let this = value_fits value_type (part len.0) value.0 (subst (λ n. least_len (layout_of value_type) ≤ n) (sym fit.sized) fit.least) value.1 in
    subst (ValueFits room) (some_is (value.0, len.0) x value.2) (subst (λ n. length (value_bytes value.0) ≤ n) fit.sized this, fit.fits)

-- values are as many as their offsets, and there is room for them
abbrev ValuesFit : ℕ → List ℕ → List Value → Type 0
ValuesFit room offsets vs = (length (flat_map value_bytes vs) ≤ room) × (length vs ≡ length offsets)

values_fit : (value_type : ValueType) (bytes : List ℕ) (room : ℕ) (offsets : List ℕ) (vs : List Value) → values_read value_type bytes room offsets ≡ Some vs → ValuesFit room offsets vs
values_fit value_type bytes room [] vs e = subst (ValuesFit room []) (some_is [] vs e) (omega arith, refl)
values_fit value_type bytes room (o ∷ offsets) vs e =
    let with_first : Value × ℕ → Option (List Value) = λ first. values_read value_type bytes (room - first.1) offsets >>= λ others. Some (first.0 ∷ others) in
    let first = bound (value_at value_type bytes o room) with_first vs e in
    let others = bound (values_read value_type bytes (room - first.0.1) offsets) (λ others. Some (first.0.0 ∷ others)) vs first.2 in
    let this = value_at_fits value_type bytes o room first.0 first.1 in
    let rest = values_fit value_type bytes (room - first.0.1) offsets others.0 others.1 in
    subst (ValuesFit room (o ∷ offsets)) (some_is (first.0.0 ∷ others.0) vs others.2)
    (omega (arith, this.0, this.1, rest.0, length-append (value_bytes first.0.0) (flat_map value_bytes others.0)), ap (λ n. suc n) rest.1)

-- ---- claims

abbrev NameFits : ℕ → List ℕ × ℕ → Type 0
NameFits room x = (length (terminated x.0) ≤ x.1) × (x.1 ≤ room)

name_fits : (bytes : List ℕ) (x : List ℕ × ℕ) → name_read bytes ≡ Some x → NameFits (room_of bytes) x
unfolding name_read
name_fits bytes x e =
    let o = u32_at bytes 0 in
    let part : ℕ → List ℕ = λ n. slice_range bytes o (o + n) in
    let len = bound (part_len TerminatedText bytes o (room_of bytes)) (λ n. text_of_part (part n) >>= λ name. Some (name, n)) x e in
    let name = bound (text_of_part (part len.0)) (λ name. Some (name, len.0)) x len.2 in
    let fit = part_fits TerminatedText bytes o (room_of bytes) len.0 len.1 in
    let this = text_fits (part len.0) name.0 (subst (λ n. 2 ≤ n) (sym fit.sized) fit.least) name.1 in
    subst (NameFits (room_of bytes)) (some_is (name.0, len.0) x name.2) (subst (λ n. length (terminated name.0) ≤ n) fit.sized this, fit.fits)

offsets_within : (bytes : List ℕ) (value_type : ValueType) → header_read bytes ≡ Some value_type → header_len (u32_at bytes 12) ≤ length bytes
unfolding header_read
offsets_within bytes value_type e =
    let long = passed (nat_lt (length bytes) 16) _ value_type e in
    let zeros = passed (not (u16_at bytes 6 == 0)) _ value_type long.1 in
    let room = passed (nat_lt (length bytes) (header_len (u32_at bytes 12))) (type_read (u16_at bytes 4)) value_type zeros.1 in
    ltb-false _ _ room.0

pub claims_fit_their_data : ClaimsFitTheirData
unfolding claim_read
claims_fit_their_data bytes c e =
    let offsets = u32s_at bytes 16 (u32_at bytes 12) in
    let made : ValueType → List ℕ → List Value → ClaimValue = λ value_type name vs. claim_value name (u32_at bytes 8) value_type vs in
    let with_name : ValueType → List ℕ × ℕ → Option ClaimValue = λ value_type name. values_read value_type bytes (room_of bytes - name.1) offsets >>= λ vs. claim_of (made value_type name.0 vs) in
    let header = bound (header_read bytes) (λ value_type. name_read bytes >>= with_name value_type) c e in
    let name = bound (name_read bytes) (with_name header.0) c header.2 in
    let vs = bound (values_read header.0 bytes (room_of bytes - name.0.1) offsets) (λ vs. claim_of (made header.0 name.0.0 vs)) c name.2 in
    let is : made header.0 name.0.0 vs.0 ≡ c = some_is _ c (held (is_claim (made header.0 name.0.0 vs.0)) (Some (made header.0 name.0.0 vs.0)) c vs.2).1 in
    let named = name_fits bytes name.0 name.1 in
    let valued = values_fit header.0 bytes (room_of bytes - name.0.1) offsets vs.0 vs.1 in
    let within = offsets_within bytes header.0 header.1 in
    let counted : length vs.0 ≡ u32_at bytes 12 = valued.1 ∙ length-map-range_with_len (λ k. u32_at bytes (16 + 4 * k)) 0 (u32_at bytes 12) in
    subst (λ (x : ClaimValue). claim_len x.name x.values ≤ length bytes) is (omega (arith, named.0, named.1, valued.0, within, counted))
