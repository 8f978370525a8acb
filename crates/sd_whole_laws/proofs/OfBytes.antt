-- What is parsed of bytes has bytes: the flags, the GUIDs and the data of each entry.
use Rattle.std.proofs.Common.{List, None, Ok, Option, Result, Some, [], ap, drop, false, get_or, inl, inr, length, refl, subst, suc, take, true, zero, ℕ, ◌%◌, ◌+◌, ◌<◌, ◌^◌, ◌∷◌, ◌≡◌, ◌⊎◌}
use Rattle.std.specs.Prelude.{Bool, IfSome, bit_and, nat_lt, not, slice_range, ◌==◌}
use Rattle.std.specs.List.{AllByRecursion}
use Rattle.sd_acl.specs.declared.ace.AceKind.{AceKind}
use Rattle.sd_acl.specs.declared.descriptor.DaclOf.TheVariants.{Absent, Null, List as Entries}
use Rattle.sd_claim_laws.proofs.Parsed.{octets_small}
use Rattle.sd_sid.specs.Sid.{SidValue}
use Rattle.sd_sid.specs.SidBytes.{sid_reading, u32_at}
use Rattle.sd_text.proofs.Parts.{went}
use Rattle.sd_whole.proofs.Cited.{bound, chosen, good_is, passed}
use Rattle.sd_whole.proofs.EntryStands.{range_fits, rest_fits}
use Rattle.sd_whole.proofs.ListStands.{list_parts}
use Rattle.sd_whole.proofs.ReadIsWhole.{is_whole}
use Rattle.sd_whole.proofs.Steps.{fit_is, fitted, passes}
use Rattle.sd_whole.specs.Kind.{has_object_types, kind_of, plain_kind}
use Rattle.sd_whole.specs.Layout.{guid_read, if_sid, layout_read, no_types, types_read}
use Rattle.sd_whole.specs.Reading.{WholeAcl, acl_read, body_read, by_kind, by_layout, kept_bits, opaque, plain_or_typed, whole_entry_read, whole_list_read, whole_read}
use Rattle.sd_whole.specs.Values.{WholeListValue}
use Rattle.sd_whole.specs.declared.ace.TypedAce.{TypedAce}
use Rattle.sd_whole.specs.declared.ace.WholeAce.{WholeAce}
use Rattle.sd_whole.specs.declared.descriptor.WholeDescriptor.{WholeDescriptor}
use Rattle.sd_whole.specs.declared.kind.WholeKind.{WholeKind}
use Rattle.sd_whole.specs.declared.types.Guid.{Guid}
use Rattle.sd_whole.specs.declared.types.ObjectTypes.{ObjectTypes}
use Rattle.sd_wire.specs.Reading.{entries_of, header_read, is_outside, is_set, trustee_read, u16_at, ◌>>=◌}
use Rattle.sd_wire.specs.declared.fault.WireFault.{WireFault}
use Rattle.sd_wire.specs.declared.fault.WireFault.TheVariants.{EntrySize}
use Rattle.sd_whole_laws.specs.Laws.{AreBytes, EachEntry, EachOf, HasBytes, IsOfBytes, ParsedIsWhole}

abbrev Fit : List ℕ → Type 0
Fit bytes = (i : ℕ) → get_or bytes i 0 < 256

-- ---- object types

front_small : (n : ℕ) (bytes : List ℕ) → AreBytes bytes → AreBytes (take n bytes)
front_small zero bytes all = tt
front_small (suc n) [] all = tt
front_small (suc n) (b ∷ bytes) all = (all.0, front_small n bytes all.1)

guid_small : (is_there : Bool) (bytes : List ℕ) (x : Option Guid × ℕ) → Fit bytes → guid_read is_there bytes ≡ Some x → IfSome x.0 (λ guid. AreBytes guid.bytes)
guid_small false bytes x fits h =
    let is : None ≡ x.0 = ap (λ (y : Option Guid × ℕ). y.0) (fit_is (None, 0) x h) in subst (λ (o : Option Guid). IfSome o (λ guid. AreBytes guid.bytes)) is tt
guid_small true bytes x fits h =
    let long = passes (nat_lt (length bytes) 16) _ x h in
    let is : Some (record { bytes = take 16 bytes }) ≡ x.0 = ap (λ (y : Option Guid × ℕ). y.0) (fit_is (Some (record { bytes = take 16 bytes }), 16) x long.1) in
    subst (λ (o : Option Guid). IfSome o (λ guid. AreBytes guid.bytes)) is (front_small 16 bytes (octets_small bytes fits))

-- both GUIDs
abbrev Small : ObjectTypes → Type 0
Small types = IfSome types.object (λ guid. AreBytes guid.bytes) × IfSome types.inherited (λ guid. AreBytes guid.bytes)

types_small : (has : Bool) (bytes : List ℕ) (x : ObjectTypes × ℕ) → Fit bytes → types_read has bytes ≡ Some x → Small x.0
unfolding types_read
types_small false bytes x fits h =
    let is : no_types ≡ x.0 = ap (λ (y : ObjectTypes × ℕ). y.0) (fit_is (no_types, 0) x h) in subst Small is (tt, tt)
types_small true bytes x fits h =
    let w = u32_at bytes 0 in
    let long = passes _ _ _ h in
    let named = passes _ _ _ long.1 in
    let object = fitted _ _ _ named.1 in
    let inherited = fitted _ _ _ object.2 in
    let read : ObjectTypes × ℕ = (record { object = object.0.0; inherited = inherited.0.0 }, 4 + object.0.1 + inherited.0.1) in
    let is : record { object = object.0.0; inherited = inherited.0.0 } ≡ x.0 = ap (λ (y : ObjectTypes × ℕ). y.0) {x = read} {y = x} (fit_is read x inherited.2) in
    let behind = rest_fits bytes 4 fits in
    subst Small {x = record { object = object.0.0; inherited = inherited.0.0 }} is (guid_small (is_set 1 w) (drop 4 bytes) object.0 behind object.1, guid_small (is_set 2 w) (drop object.0.1 (drop 4 bytes)) inherited.0 (rest_fits (drop 4 bytes) object.0.1 behind) inherited.1)

-- ---- bodies

either : {A : Type 0} (o : Option A) → (o ≡ None) ⊎ ((x : A) × (o ≡ Some x))
either None = inl refl
either (Some x) = inr (x, refl)

layout_small : (has : Bool) (body : List ℕ) → Fit body → IfSome (layout_read has body) (λ l. Small l.types)
unfolding layout_read
layout_small has body fits =
    elim (went (nat_lt (length body) 4)) [
      | inl h ↦ rw h tt
      | inr h ↦ rw h (elim (either (types_read has (drop 4 body))) [
        | inl none ↦ rw none tt
        | inr types ↦ rw types.1 (elim (either (if_sid (sid_reading (drop types.0.1 (drop 4 body))))) [
          | inl none ↦ rw none tt
          | inr sid ↦ rw sid.1 (types_small has (drop 4 body) types.0 (rest_fits body 4 fits) types.1)
        ])
      ])
    ]

plain_or_typed_of : (p : Option AceKind) (e : TypedAce) → HasBytes e → IsOfBytes (plain_or_typed p e)
plain_or_typed_of None e has = has
plain_or_typed_of (Some p) e has = elim (went (length e.trailing == 0)) [ inl h ↦ rw h tt | inr h ↦ rw h has ]

-- an entry that was parsed
abbrev read_as : WholeAce → Result WholeAce WireFault
read_as e = Ok e

module _ (type flags : ℕ) (body : List ℕ) (e : WholeAce) (fits : Fit body) (small : flags < 2 ^ 8) where
  opaque_of : read_as (opaque type flags body) ≡ read_as e → IsOfBytes e
  opaque_of h = subst IsOfBytes (good_is (opaque type flags body) e h) tt

  kind_of_bytes : (kind : WholeKind) → by_layout kind type flags body (layout_read (has_object_types kind) body) ≡ Ok e → IsOfBytes e
  kind_of_bytes kind h =
      let types = layout_small (has_object_types kind) body fits in
      elim (either (layout_read (has_object_types kind) body)) [
        | inl none ↦ elim (chosen (nat_lt 1 type) _ _ _ (rw none at h)) [
          | inl kept ↦ opaque_of kept.1
          | inr faulty ↦ elim (chosen (nat_lt (length body) 12) _ _ _ faulty.1) [ inl short ↦ absurd (let no = short.1 in cc) | inr bad ↦ absurd (let no = bad.1 in cc) ]
        ]
        | inr layout ↦
            let both = rw layout.1 at types in
            let typed : TypedAce = record { kind = kind; flags = record { 0 = flags }; mask = layout.0.mask; types = layout.0.types; sid = layout.0.sid; trailing = drop layout.0.place body } in
            let has : HasBytes typed = record { flags = small; object = both.0; inherited = both.1; trailing = octets_small (drop layout.0.place body) (rest_fits body layout.0.place fits) } in
            subst IsOfBytes (good_is (plain_or_typed (plain_kind kind) typed) e (rw layout.1 at h)) (plain_or_typed_of (plain_kind kind) typed has)
      ]

  by_kind_of : (k : Option WholeKind) → by_kind k type flags body ≡ Ok e → IsOfBytes e
  by_kind_of None h = opaque_of h
  by_kind_of (Some kind) h = kind_of_bytes kind h

  body_of_bytes : body_read type flags body ≡ Ok e → IsOfBytes e
  unfolding body_read
  body_of_bytes h = by_kind_of (kind_of type) h

-- ---- entries and lists

entry_of_bytes : (bytes : List ℕ) (x : WholeAce × ℕ) → Fit bytes → whole_entry_read bytes ≡ Ok x → IsOfBytes x.0
unfolding whole_entry_read
entry_of_bytes bytes x fits h =
    let header = passed (nat_lt (length bytes) 4) EntrySize _ x h in
    let least = passed (nat_lt (u16_at bytes 2) 4) EntrySize _ x header.1 in
    let even = passed (not (u16_at bytes 2 % 4 == 0)) EntrySize _ x least.1 in
    let inside = passed (nat_lt (length bytes) (u16_at bytes 2)) EntrySize _ x even.1 in
    let size = u16_at bytes 2 in
    let body = slice_range bytes 4 size in
    let read = bound (body_read (get_or bytes 0 0) (get_or bytes 1 0) body) (λ (e : WholeAce). Ok (e, size)) x inside.1 in
    let is : read.0 ≡ x.0 = ap (λ (y : WholeAce × ℕ). y.0) (good_is (read.0, size) x read.2) in
    subst IsOfBytes is (body_of_bytes (get_or bytes 0 0) (get_or bytes 1 0) body read.0 (range_fits bytes 4 size fits) (fits 1) read.1)

entries_of_bytes : (bytes : List ℕ) (n : ℕ) (es : List WholeAce) → Fit bytes → entries_of whole_entry_read bytes n ≡ Ok es → AllByRecursion IsOfBytes es
unfolding entries_of
entries_of_bytes bytes zero es fits h = let none : [] ≡ es = good_is [] es h in subst (AllByRecursion IsOfBytes) none tt
entries_of_bytes bytes (suc n) es fits h =
    let first = bound (whole_entry_read bytes) (λ (x : WholeAce × ℕ). entries_of whole_entry_read (drop x.1 bytes) n >>= λ xs. Ok (x.0 ∷ xs)) es h in
    let others = bound (entries_of whole_entry_read (drop first.0.1 bytes) n) (λ (xs : List WholeAce). Ok (first.0.0 ∷ xs)) es first.2 in
    let all : first.0.0 ∷ others.0 ≡ es = good_is (first.0.0 ∷ others.0) es others.2 in
    subst (AllByRecursion IsOfBytes) all (entry_of_bytes bytes first.0 fits first.1, entries_of_bytes (drop first.0.1 bytes) n others.0 (rest_fits bytes first.0.1 fits) others.1)

acl_of_bytes : (present : Bool) (bytes : List ℕ) (o : ℕ) (acl : WholeAcl) → Fit bytes → acl_read present bytes o ≡ Ok acl → EachEntry IsOfBytes acl
unfolding acl_read
acl_of_bytes present bytes o acl fits h = elim (chosen (not present) _ _ _ h) [
  | inl absent ↦ let is : Absent ≡ acl = good_is Absent acl absent.1 in subst (EachEntry IsOfBytes) is tt
  | inr there ↦ elim (chosen (o == 0) _ _ _ there.1) [
    | inl none ↦ let is : Null ≡ acl = good_is Null acl none.1 in subst (EachEntry IsOfBytes) is tt
    | inr some ↦
        let place = passed (is_outside bytes o) _ _ acl some.1 in
        let list = bound (whole_list_read (drop o bytes)) (λ (l : WholeListValue). Ok (Entries l)) acl place.1 in
        let is : Entries list.0 ≡ acl = good_is (Entries list.0) acl list.2 in
        let parts = list_parts (drop o bytes) list.0 list.1 in
        let range = slice_range (drop o bytes) 8 (u16_at (drop o bytes) 2) in
        subst (EachEntry IsOfBytes) is (entries_of_bytes range (u16_at (drop o bytes) 4) list.0.entries (range_fits (drop o bytes) 8 (u16_at (drop o bytes) 2) (rest_fits bytes o fits)) parts.entries)
  ]
]

-- ---- descriptors

descriptor_of_bytes : (bytes : List ℕ) (d : WholeDescriptor) → Fit bytes → whole_read bytes ≡ Ok d → EachOf IsOfBytes d
unfolding whole_read
descriptor_of_bytes bytes d fits h =
    let made : ℕ → Option SidValue → Option SidValue → WholeAcl → WholeAcl → Result WholeDescriptor WireFault = λ control owner group sacl dacl.
    Ok (record { resource_manager = get_or bytes 1 0; control = bit_and control kept_bits; owner = owner; group = group; sacl = sacl; dacl = dacl }) in
    let with_sacl : ℕ → Option SidValue → Option SidValue → WholeAcl → Result WholeDescriptor WireFault = λ control owner group sacl. acl_read (is_set 0x0004 control) bytes (u32_at bytes 16) >>= made control owner group sacl in
    let with_group : ℕ → Option SidValue → Option SidValue → Result WholeDescriptor WireFault = λ control owner group. acl_read (is_set 0x0010 control) bytes (u32_at bytes 12) >>= with_sacl control owner group in
    let with_owner : ℕ → Option SidValue → Result WholeDescriptor WireFault = λ control owner. trustee_read bytes (u32_at bytes 8) >>= with_group control owner in
    let with_control : ℕ → Result WholeDescriptor WireFault = λ control. trustee_read bytes (u32_at bytes 4) >>= with_owner control in
    let control = bound (header_read bytes) with_control d h in
    let owner = bound (trustee_read bytes (u32_at bytes 4)) (with_owner control.0) d control.2 in
    let group = bound (trustee_read bytes (u32_at bytes 8)) (with_group control.0 owner.0) d owner.2 in
    let sacl = bound (acl_read (is_set 0x0010 control.0) bytes (u32_at bytes 12)) (with_sacl control.0 owner.0 group.0) d group.2 in
    let dacl = bound (acl_read (is_set 0x0004 control.0) bytes (u32_at bytes 16)) (made control.0 owner.0 group.0 sacl.0) d sacl.2 in
    let read : WholeDescriptor = record { resource_manager = get_or bytes 1 0; control = bit_and control.0 kept_bits; owner = owner.0; group = group.0; sacl = sacl.0; dacl = dacl.0 } in
    let is : read ≡ d = good_is read d dacl.2 in
    subst (EachOf IsOfBytes) {x = read} is (acl_of_bytes (is_set 0x0004 control.0) bytes (u32_at bytes 16) dacl.0 fits dacl.1, acl_of_bytes (is_set 0x0010 control.0) bytes (u32_at bytes 12) sacl.0 fits sacl.1)

pub parsed_is_whole : ParsedIsWhole
parsed_is_whole bytes d fits h = (is_whole bytes (Ok d) fits h, descriptor_of_bytes bytes d fits h)
