-- What is parsed is whole: its numbers fit their fields, and its entries are what their bytes are parsed as.
use Rattle.sd_whole.proofs.Cited.{Absent, AceKind, All-map, AllByRecursion, AreTypes, Bool, Err, Gives, Guid, HasNoLayout, IfOk, IfSome, IsGuid, IsSid, IsWholeAce, IsWholeAcl, IsWholeDescriptor, IsWholeList, Layout, List, None, Null, ObjectTypes, Ok, Option, Result, SidError, SidValue, Some, TypedAce, WholeAce, WholeAcl, WholeDescriptor, WholeKind, WholeListValue, WireError, WireFault, [], and_assoc, ap, arith, authority_of, bad_sid, bit_and, bound, by_kind, by_layout, bytes_of_sid, cases_Bool, chosen, cond, drop, eqb-false, eqb-true, false, get_or, good_is, guid_read, has_object_types, inl, inr, is_outside, is_set, kept_bits, kind_of, length, length-append, length-drop, length-map-range_with_len, length-take, length-take-le, length_of_sid, ltb-false, ltb-true, nat_lt, no_types, not, not-false, of_layout, opaque, or_parts, passed, plain_kind, plain_or_typed, range_with_len, refl, sid_read, slice_range, subst, suc, sym, take, true, typed_body, types_part, u16_at, u32_at, u32s_at, zero, ℕ, ◌%◌, ◌*◌, ◌++◌, ◌+◌, ◌-◌, ◌<◌, ◌==◌, ◌>>=◌, ◌^◌, ◌||◌, ◌∙◌, ◌∷◌, ◌≡◌, ◌≢◌, ◌≤◌}
use Rattle.sd_acl.specs.declared.descriptor.DaclOf.TheVariants.{List as Entries}
use Rattle.sd_whole.specs.declared.ace.WholeAce.TheVariants.{Plain, Typed}
use Rattle.sd_sid.specs.SidBytes.{sid_reading}
use Rattle.sd_sid.specs.declared.sid.SidError.TheVariants.{Count, Revision, Short}
use Rattle.sd_wire.specs.Reading.{entries_of, header_read, trustee_read}
use Rattle.sd_whole.specs.Layout.{types_read, layout_read}
use Rattle.sd_whole.specs.Reading.{acl_read, body_read, whole_entry_read, whole_list_read, whole_read}
use Rattle.sd_whole.proofs.EntryAgain.{quads}
use Rattle.sd_whole.proofs.EntryStands.{layout_stands, of_parts, parts_are_body, range_fits, rest_fits}
use Rattle.sd_whole.proofs.Lengths.{length_of_entries}
use Rattle.sd_whole.proofs.ListStands.{entries_stand, list_parts}
use Rattle.sd_whole.proofs.Steps.{fit_is, fitted, if_sid_is, passes, sid_found, sid_found_is}

-- ---- SIDs

u32_small : (bytes : List ℕ) (o : ℕ) → ((i : ℕ) → get_or bytes i 0 < 256) → u32_at bytes o < 2 ^ 32
u32_small bytes o fits = omega (arith, fits o, fits (o + 1), fits (o + 2), fits (o + 3))

u16_small : (bytes : List ℕ) (o : ℕ) → ((i : ℕ) → get_or bytes i 0 < 256) → u16_at bytes o < 2 ^ 16
u16_small bytes o fits = omega (arith, fits o, fits (o + 1))

sid_is : (bytes : List ℕ) (s : SidValue) (n : ℕ) → ((i : ℕ) → get_or bytes i 0 < 256) → sid_reading bytes ≡ Ok (s, n) → IsSid s
unfolding sid_reading
sid_is bytes s n fits h =
    let count = get_or bytes 1 0 in
    let read : SidValue = record { authority = authority_of bytes; subs = u32s_at bytes 8 count } in
    let last = cond (nat_lt (length bytes) (8 + 4 * count)) (Err Short) (sid_found (read, 8 + 4 * count)) in
    let third = cond (count == 0 || nat_lt 15 count) (Err Count) last in
    let second = cond (not (get_or bytes 0 0 == 1)) (Err Revision) third in
    let long = passed (nat_lt (length bytes) 8) Short second (s, n) h in
    let revision = passed (not (get_or bytes 0 0 == 1)) Revision third (s, n) long.1 in
    let counted = passed (count == 0 || nat_lt 15 count) Count last (s, n) revision.1 in
    let room = passed (nat_lt (length bytes) (8 + 4 * count)) Short (sid_found (read, 8 + 4 * count)) (s, n) counted.1 in
    let same : read ≡ s = ap (λ (x : SidValue × ℕ). x.0) (sid_found_is (read, 8 + 4 * count) (s, n) room.1) in
    let bounds = or_parts (count == 0) (nat_lt 15 count) counted.0 in
    let some : count ≢ 0 = eqb-false count 0 bounds.0 in
    let few : count ≤ 15 = ltb-false _ _ bounds.1 in
    let number : length (u32s_at bytes 8 count) ≡ count = length-map-range_with_len (λ k. u32_at bytes (8 + 4 * k)) 0 count in
    subst IsSid same (record {
      authority = omega (arith, fits 2, fits 3, fits 4, fits 5, fits 6, fits 7);
      some = omega (arith, number, some);
      few = omega (arith, number, few);
      words = All-map (λ sub. sub < 2 ^ 32) (λ k. u32_at bytes (8 + 4 * k)) (range_with_len 0 count) (λ k d lt. u32_small bytes (8 + 4 * get_or (range_with_len 0 count) k d) fits);
    })

pub good_sid : (r : Result (SidValue × ℕ) SidError) (s : SidValue) → bad_sid r ≡ Ok s → (n : ℕ) × (r ≡ Ok (s, n))
good_sid (Ok x) s h = (x.1, ap (λ (y : SidValue). Ok (y, x.1)) (good_is x.0 s h))
good_sid (Err e) s h = absurd cc

trustee_is : (bytes : List ℕ) (o : ℕ) (t : Option SidValue) → ((i : ℕ) → get_or bytes i 0 < 256) → trustee_read bytes o ≡ Ok t → IfSome t IsSid
unfolding trustee_read
trustee_is bytes o t fits h = elim (chosen (o == 0) _ _ _ h) [
  | inl none ↦ let is : None ≡ t = good_is None t none.1 in subst (λ x. IfSome x IsSid) is tt
  | inr some ↦
      let place = passed (is_outside bytes o) _ _ t some.1 in
      let sid = bound (sid_read bytes o (length bytes)) (λ (s : SidValue). Ok (Some s)) t place.1 in
      let is : Some sid.0 ≡ t = good_is (Some sid.0) t sid.2 in
      let read = good_sid (sid_reading (slice_range bytes o (length bytes))) sid.0 sid.1 in
      subst (λ x. IfSome x IsSid) is (sid_is (slice_range bytes o (length bytes)) sid.0 read.0 (range_fits bytes o (length bytes) fits) read.1)
]

-- ---- object types

guid_is : (is_there : Bool) (bytes : List ℕ) (g : Option Guid) (n : ℕ) → guid_read is_there bytes ≡ Some (g, n) → IfSome g IsGuid
guid_is false bytes g n h =
    let g_is : None ≡ g = ap (λ (x : Option Guid × ℕ). x.0) (fit_is (None, 0) (g, n) h) in subst (λ x. IfSome x IsGuid) g_is tt
guid_is true bytes g n h =
    let long = passes _ _ _ h in
    let read : Option Guid × ℕ = (Some (record { bytes = take 16 bytes }), 16) in
    let g_is : Some (record { bytes = take 16 bytes }) ≡ g = ap (λ (x : Option Guid × ℕ). x.0) (fit_is read (g, n) long.1) in
    let least : 16 ≤ length bytes = ltb-false _ _ long.0 in
    subst (λ x. IfSome x IsGuid) g_is (length-take-le 16 bytes least)

types_are : (has : Bool) (bytes : List ℕ) (types : ObjectTypes) (n : ℕ) → types_read has bytes ≡ Some (types, n) → AreTypes has types
unfolding types_read
types_are false bytes types n h = sym (ap (λ (x : ObjectTypes × ℕ). x.0) (fit_is (no_types, 0) (types, n) h))
types_are true bytes types n h =
    let w = u32_at bytes 0 in
    let long = passes _ _ _ h in
    let named = passes _ _ _ long.1 in
    let object = fitted _ _ _ named.1 in
    let inherited = fitted _ _ _ object.2 in
    let read : ObjectTypes × ℕ = (record { object = object.0.0; inherited = inherited.0.0 }, 4 + object.0.1 + inherited.0.1) in
    let is : record { object = object.0.0; inherited = inherited.0.0 } ≡ types = ap (λ (x : ObjectTypes × ℕ). x.0) (fit_is read (types, n) inherited.2) in
    let first : IfSome object.0.0 IsGuid = guid_is (is_set 1 w) (drop 4 bytes) object.0.0 object.0.1 object.1 in
    let second : IfSome inherited.0.0 IsGuid = guid_is (is_set 2 w) (drop object.0.1 (drop 4 bytes)) inherited.0.0 inherited.0.1 inherited.1 in
    subst (AreTypes true) is (first, second)

-- ---- bodies

-- the parts of a layout
record Laid (has : Bool) (l : Layout) : Type 0 where
  mask : l.mask < 2 ^ 32
  types : AreTypes has l.types
  sid : IsSid l.sid

layout_is : (has : Bool) (body : List ℕ) (l : Layout) → ((i : ℕ) → get_or body i 0 < 256) → layout_read has body ≡ Some l → Laid has l
unfolding layout_read
layout_is has body l fits h =
    let long = passes _ _ _ h in
    let types = fitted _ _ _ long.1 in
    let sid = fitted _ _ _ types.2 in
    let rest_is_fit = rest_fits (drop 4 body) types.0.1 (rest_fits body 4 fits) in
    let read : Layout = record { mask = u32_at body 0; types = types.0.0; sid = sid.0.0; place = 4 + types.0.1 + sid.0.1 } in
    let same : read ≡ l = fit_is read l sid.2 in
    subst (Laid has) same (record {
      mask = u32_small body 0 fits;
      types = types_are has (drop 4 body) types.0.0 types.0.1 types.1;
      sid = sid_is (drop types.0.1 (drop 4 body)) sid.0.0 sid.0.1 rest_is_fit (if_sid_is _ _ sid.1);
    })

-- an entry with a layout whose body is a multiple of 4 bytes
module _ (e : TypedAce) (flags : e.flags.0 < 2 ^ 8) (mask : e.mask < 2 ^ 32) (types : AreTypes (has_object_types e.kind) e.types) (sid : IsSid e.sid) (fours : length (typed_body e) % 4 ≡ 0) where
  aligned : length e.trailing % 4 ≡ 0
  aligned =
      let part = types_part (has_object_types e.kind) e.types in
      let q = quads (has_object_types e.kind) e.types types in
      let known : length part ≡ 4 * q.0 = q.1 in
      omega (arith, fours, known, length-append part (bytes_of_sid e.sid ++ e.trailing), length-append (bytes_of_sid e.sid) e.trailing, length_of_sid e.sid)

  plain_or_typed_whole : (p : Option AceKind) → p ≡ plain_kind e.kind → IsWholeAce (plain_or_typed p e)
  plain_or_typed_whole None is = record { mask = mask; sid = sid; types = types; aligned = aligned; other = subst (λ q. IfSome q (λ _. 0 < length e.trailing)) is tt }
  plain_or_typed_whole (Some p) is = elim (cases_Bool (length e.trailing == 0)) [
    | inl none ↦
        let plain : plain_or_typed (Some p) e ≡ Plain (record { kind = p; flags = e.flags; mask = e.mask; sid = e.sid }) = rw none refl in
        subst IsWholeAce (sym plain) (record { flags = flags; mask = mask; sid = sid })
    | inr some ↦
        let typed : plain_or_typed (Some p) e ≡ Typed e = rw some refl in
        let more : length e.trailing ≢ 0 = eqb-false _ _ some in
        let least : 0 < length e.trailing = omega (arith, more) in
        subst IsWholeAce (sym typed) (record { mask = mask; sid = sid; types = types; aligned = aligned; other = subst (λ q. IfSome q (λ _. 0 < length e.trailing)) is least })
  ]

-- types 0 and 1 have kinds
no_kind : (type : ℕ) → kind_of type ≡ None → 1 < type
no_kind zero h = absurd cc
no_kind (suc zero) h = absurd cc
no_kind (suc (suc type)) h = omega arith

module _ (type flags : ℕ) (body : List ℕ) (e : WholeAce) (fits : (i : ℕ) → get_or body i 0 < 256) (small : flags < 2 ^ 8) (fours : length body % 4 ≡ 0) where
  opaque_whole : 1 < type → HasNoLayout (kind_of type) body → IsWholeAce (opaque type flags body)
  opaque_whole other none = record { other = other; aligned = fours; without_layout = none }

  by_layout_whole : (kind : WholeKind) (o : Option Layout) → kind_of type ≡ Some kind → layout_read (has_object_types kind) body ≡ o → by_layout kind type flags body o ≡ Ok e → IsWholeAce e
  by_layout_whole kind None found none h = elim (chosen (nat_lt 1 type) _ _ _ h) [
    | inl kept ↦ subst IsWholeAce (good_is (opaque type flags body) e kept.1) (opaque_whole (ltb-true _ _ kept.0) (subst (λ k. HasNoLayout k body) (sym found) none))
    | inr faulty ↦ elim (chosen (nat_lt (length body) 12) _ _ _ faulty.1) [ inl short ↦ absurd (let no = short.1 in cc) | inr bad ↦ absurd (let no = bad.1 in cc) ]
  ]
  by_layout_whole kind (Some l) found read h =
      let laid = layout_is (has_object_types kind) body l fits read in
      let same : typed_body (of_parts kind flags body l) ≡ body = parts_are_body kind flags body l (layout_stands (has_object_types kind) body l fits read) in
      let whole_fours : length (typed_body (of_parts kind flags body l)) % 4 ≡ 0 = ap (λ (x : List ℕ). length x % 4) same ∙ fours in
      subst IsWholeAce (good_is (of_layout kind flags body l) e h) (plain_or_typed_whole (of_parts kind flags body l) small laid.mask laid.types laid.sid whole_fours (plain_kind kind) refl)

  by_kind_whole : (k : Option WholeKind) → kind_of type ≡ k → by_kind k type flags body ≡ Ok e → IsWholeAce e
  by_kind_whole None found h = subst IsWholeAce (good_is (opaque type flags body) e h) (opaque_whole (no_kind type found) (subst (λ k. HasNoLayout k body) (sym found) tt))
  by_kind_whole (Some kind) found h = by_layout_whole kind (layout_read (has_object_types kind) body) found refl h

  body_whole : body_read type flags body ≡ Ok e → IsWholeAce e
  unfolding body_read
  body_whole h = by_kind_whole (kind_of type) refl h

-- ---- entries and lists

entry_whole : (bytes : List ℕ) (e : WholeAce) (n : ℕ) → ((i : ℕ) → get_or bytes i 0 < 256) → whole_entry_read bytes ≡ Ok (e, n) → IsWholeAce e
unfolding whole_entry_read
entry_whole bytes e n fits h =
    let header = passed _ _ _ _ h in
    let least = passed _ _ _ _ header.1 in
    let even = passed _ _ _ _ least.1 in
    let inside = passed _ _ _ _ even.1 in
    let size = u16_at bytes 2 in
    let body = slice_range bytes 4 size in
    let read = bound (body_read (get_or bytes 0 0) (get_or bytes 1 0) body) (λ (x : WholeAce). Ok (x, size)) (e, n) inside.1 in
    let e_is : read.0 ≡ e = ap (λ (x : WholeAce × ℕ). x.0) (good_is (read.0, size) (e, n) read.2) in
    let low : 4 ≤ size = ltb-false _ _ least.0 in
    let high : size ≤ length bytes = ltb-false _ _ inside.0 in
    let fours : size % 4 ≡ 0 = eqb-true _ _ (not-false _ even.0) in
    let long : length body ≡ size - 4 = length-take-le (size - 4) (drop 4 bytes) (omega (arith, length-drop 4 bytes)) in
    let aligned : length body % 4 ≡ 0 = omega arith in
    subst IsWholeAce e_is (body_whole (get_or bytes 0 0) (get_or bytes 1 0) body read.0 (range_fits bytes 4 size fits) (fits 1) aligned read.1)

entries_whole : (bytes : List ℕ) (n : ℕ) (es : List WholeAce) → ((i : ℕ) → get_or bytes i 0 < 256) → entries_of whole_entry_read bytes n ≡ Ok es → AllByRecursion IsWholeAce es
unfolding entries_of
entries_whole bytes zero es fits h = let none : [] ≡ es = good_is [] es h in subst (AllByRecursion IsWholeAce) none tt
entries_whole bytes (suc n) es fits h =
    let first = bound (whole_entry_read bytes) (λ (x : WholeAce × ℕ). entries_of whole_entry_read (drop x.1 bytes) n >>= λ xs. Ok (x.0 ∷ xs)) es h in
    let others = bound (entries_of whole_entry_read (drop first.0.1 bytes) n) (λ (xs : List WholeAce). Ok (first.0.0 ∷ xs)) es first.2 in
    let all : first.0.0 ∷ others.0 ≡ es = good_is (first.0.0 ∷ others.0) es others.2 in
    subst (AllByRecursion IsWholeAce) all (entry_whole bytes first.0.0 first.0.1 fits first.1, entries_whole (drop first.0.1 bytes) n others.0 (rest_fits bytes first.0.1 fits) others.1)

list_whole : (bytes : List ℕ) (list : WholeListValue) → ((i : ℕ) → get_or bytes i 0 < 256) → whole_list_read bytes ≡ Ok list → IsWholeList list
list_whole bytes list fits h =
    let parts = list_parts bytes list h in
    let size = u16_at bytes 2 in
    let range = slice_range bytes 8 size in
    let stay = entries_stand range (u16_at bytes 4) list.entries (range_fits bytes 8 size fits) parts.entries in
    let short : length range ≤ size - 8 = omega (arith, length-take (size - 8) (drop 8 bytes)) in
    let least : 8 ≤ size = parts.least in
    record {
      each = entries_whole range (u16_at bytes 4) list.entries (range_fits bytes 8 size fits) parts.entries;
      fit = omega (arith, stay.within, length_of_entries list.entries, u16_small bytes 2 fits);
    }

acl_whole : (present : Bool) (bytes : List ℕ) (o : ℕ) (acl : WholeAcl) → ((i : ℕ) → get_or bytes i 0 < 256) → acl_read present bytes o ≡ Ok acl → IsWholeAcl acl
unfolding acl_read
acl_whole present bytes o acl fits h = elim (chosen (not present) _ _ _ h) [
  | inl absent ↦ let is : Absent ≡ acl = good_is Absent acl absent.1 in subst IsWholeAcl is tt
  | inr there ↦ elim (chosen (o == 0) _ _ _ there.1) [
    | inl none ↦ let is : Null ≡ acl = good_is Null acl none.1 in subst IsWholeAcl is tt
    | inr some ↦
        let place = passed (is_outside bytes o) _ _ acl some.1 in
        let list = bound (whole_list_read (drop o bytes)) (λ (l : WholeListValue). Ok (Entries l)) acl place.1 in
        let is : Entries list.0 ≡ acl = good_is (Entries list.0) acl list.2 in
        subst IsWholeAcl is (list_whole (drop o bytes) list.0 (rest_fits bytes o fits) list.1)
  ]
]

-- ---- descriptors

descriptor_whole : (bytes : List ℕ) (d : WholeDescriptor) → ((i : ℕ) → get_or bytes i 0 < 256) → whole_read bytes ≡ Ok d → IsWholeDescriptor d
unfolding whole_read
descriptor_whole bytes d fits h =
    let made : ℕ → Option SidValue → Option SidValue → WholeAcl → WholeAcl → Result WholeDescriptor WireFault = λ control owner group sacl dacl.
    Ok (record { resource_manager = get_or bytes 1 0; control = bit_and control kept_bits; owner = owner; group = group; sacl = sacl; dacl = dacl }) in
    let with_sacl : ℕ → Option SidValue → Option SidValue → WholeAcl → Result WholeDescriptor WireFault = λ control owner group sacl. acl_read (is_set 0x0004 control) bytes (u32_at bytes 16) >>= made control owner group sacl in
    let with_group : ℕ → Option SidValue → Option SidValue → Result WholeDescriptor WireFault = λ control owner group. acl_read (is_set 0x0010 control) bytes (u32_at bytes 12) >>= with_sacl control owner group in
    let with_owner : ℕ → Option SidValue → Result WholeDescriptor WireFault = λ control owner. trustee_read bytes (u32_at bytes 8) >>= with_group control owner in
    let with_control : ℕ → Result WholeDescriptor WireFault = λ control. trustee_read bytes (u32_at bytes 4) >>= with_owner control in
    let control = bound (header_read bytes) with_control d h in
    let owner = bound (trustee_read bytes (u32_at bytes 4)) (with_owner control.0) d control.2 in
    let group = bound (trustee_read bytes (u32_at bytes 8)) (with_group control.0 owner.0) d owner.2 in
    let sacl = bound (acl_read (is_set 0x0010 control.0) bytes (u32_at bytes 12)) (with_sacl control.0 owner.0 group.0) d group.2 in
    let dacl = bound (acl_read (is_set 0x0004 control.0) bytes (u32_at bytes 16)) (made control.0 owner.0 group.0 sacl.0) d sacl.2 in
    let read : WholeDescriptor = record { resource_manager = get_or bytes 1 0; control = bit_and control.0 kept_bits; owner = owner.0; group = group.0; sacl = sacl.0; dacl = dacl.0 } in
    let is : read ≡ d = good_is read d dacl.2 in
    subst IsWholeDescriptor is (record {
      control = and_assoc kept_bits control.0 kept_bits;
      owner = trustee_is bytes (u32_at bytes 4) owner.0 fits owner.1;
      group = trustee_is bytes (u32_at bytes 8) group.0 fits group.1;
      sacl = acl_whole (is_set 0x0010 control.0) bytes (u32_at bytes 12) sacl.0 fits sacl.1;
      dacl = acl_whole (is_set 0x0004 control.0) bytes (u32_at bytes 16) dacl.0 fits dacl.1;
    })

pub is_whole : (bytes : List ℕ) (r : Result WholeDescriptor WireError) → ((i : ℕ) → get_or bytes i 0 < 256) → Gives (λ d. d) r (whole_read bytes) → IfOk r IsWholeDescriptor
is_whole bytes (Ok d) fits h = descriptor_whole bytes d fits h
is_whole bytes (Err e) fits h = tt
