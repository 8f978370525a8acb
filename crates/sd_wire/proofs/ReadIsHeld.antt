-- What is read stands in the bytes.
use Rattle.sd_wire.proofs.Cited.{Absent, Ace, AceKind, Allow, Bool, Dacl, DaclStands, Deny, Descriptor, DescriptorValue, EntriesStand, EntryKind, EntrySize, EntryStands, Err, Gives, HasSacl, Holds, IfOk, List, ListStands, None, Null, Ok, Option, ReadingsAreHeld, Result, SidError, SidValue, Some, Stands, TrusteeStands, WireError, WireFault, [], add-zero, all_named, and_cases, ap, arith, bad_sid, bit_and, bytes_of_sid, cells, cells_fit, cond, descriptor_of, drop, entry_parts, eqb-true, false, get_or, inl, inr, is_outside, is_set, kind_byte, kind_read, length, length-take, length_of_sid, ltb-false, nat_lt, not, not-false, or_cases, or_parts, passed, refl, sid_read, sid_reading, sids_stand, subst, suc, sym, take, take-take, take_all, to_le_bytes, true, u16_at, u32_at, w16, w32, zero, ℕ, ◌%◌, ◌&&◌, ◌*◌, ◌++◌, ◌+◌, ◌-◌, ◌<◌, ◌==◌, ◌>>=◌, ◌∙◌, ◌∷◌, ◌≡◌, ◌≤◌}
use Rattle.sd_acl.specs.declared.descriptor.DaclOf.TheVariants.{List as Entries}
use Rattle.sd_wire.specs.Reading.{entry_read, entries_read, list_read, trustee_read, dacl_read, header_read, control_read, descriptor_read}
use Rattle.sd_wire.proofs.Found.{good, good_is, chosen, bound}
use Rattle.sd_wire.proofs.Places.{stands_join, u16_stands, u32_stands}

abbrev IsBytes : List ℕ → Type 0
IsBytes bytes = (i : ℕ) → get_or bytes i 0 < 256

-- ---- SIDs

sid_found : (r : Result (SidValue × ℕ) SidError) (s : SidValue) → bad_sid r ≡ Ok s → (n : ℕ) × (r ≡ Ok (s, n))
sid_found (Ok x) s e = (x.1, ap (λ (v : SidValue). Ok (v, x.1)) (good_is x.0 s e))
sid_found (Err fault) s e = absurd cc

sid_is_held : (bytes : List ℕ) (o end : ℕ) (s : SidValue) → IsBytes bytes → sid_read bytes o end ≡ Ok s → Stands bytes o (bytes_of_sid s) × (o + (8 + 4 * length s.subs) ≤ end)
sid_is_held bytes o end s fits e =
    let range = take (end - o) (drop o bytes) in
    let found = sid_found (sid_reading range) s e in
    let n = found.0 in
    let front : take n range ≡ bytes_of_sid s = sids_stand range s n (cells_fit bytes o (end - o) fits) found.1 in
    let size = length (bytes_of_sid s) in
    let sized = ap length front in
    let within_n : size ≤ n = omega (arith, sized, length-take n range) in
    let within_range : size ≤ end - o = omega (arith, sized, length-take n range, length-take (end - o) (drop o bytes)) in (
      sym (take-take size (end - o) (drop o bytes) within_range) ∙ sym (take-take size n range within_n) ∙ ap (take size) front ∙ take_all size (bytes_of_sid s) (omega arith),
      omega (arith, length_of_sid s),
    )

-- ---- entries and lists

kind_is_held : (byte : ℕ) (kind : AceKind) → kind_read byte ≡ Ok kind → byte ≡ kind_byte kind
kind_is_held byte kind e =
    elim (chosen (byte == 0) (Ok Allow) (cond (byte == 1) (Ok Deny) (Err EntryKind)) (Ok kind) e) [
      | inl h ↦ eqb-true byte 0 h.0 ∙ ap kind_byte (good_is Allow kind h.1)
      | inr h ↦ elim (chosen (byte == 1) (Ok Deny) (Err EntryKind) (Ok kind) h.1) [
        | inl g ↦ eqb-true byte 1 g.0 ∙ ap kind_byte (good_is Deny kind g.1)
        | inr g ↦ absurd (cc g.1)
      ]
    ]

-- the parts of an entry, of which each was read
parts_are_held : (bytes : List ℕ) (o : ℕ) (kind : AceKind) (sid : SidValue) → IsBytes bytes → o + 8 ≤ length bytes → get_or bytes o 0 ≡ kind_byte kind → Stands bytes (o + 8) (bytes_of_sid sid)
    → Stands bytes o (entry_parts kind (get_or bytes (o + 1) 0) (u16_at bytes (o + 2)) (u32_at bytes (o + 4)) sid)
parts_are_held bytes o kind sid fits room kind_is sid_held =
    let two : List ℕ = kind_byte kind ∷ get_or bytes (o + 1) 0 ∷ [] in
    let size = to_le_bytes w16 (u16_at bytes (o + 2)) in
    let mask = to_le_bytes w32 (u32_at bytes (o + 4)) in
    let first : Stands bytes o two = cells bytes o 2 (omega arith) ∙ rw (add-zero, kind_is) refl in
    let sized : Stands bytes o (two ++ size) = stands_join bytes o two size first (u16_stands bytes (o + 2) (omega arith) fits) in
    let masked : Stands bytes o ((two ++ size) ++ mask) = stands_join bytes o (two ++ size) mask sized (u32_stands bytes (o + 4) (omega arith) fits) in
    stands_join bytes o ((two ++ size) ++ mask) (bytes_of_sid sid) masked sid_held

found_stands : (bytes : List ℕ) (o end : ℕ) (x y : Ace × ℕ) → x ≡ y → EntryStands bytes o end x.1 x.0 → EntryStands bytes o end y.1 y.0
found_stands bytes o end x y e h = subst (λ (z : Ace × ℕ). EntryStands bytes o end z.1 z.0) e h

entry_is_held : (bytes : List ℕ) (o end : ℕ) (x : Ace × ℕ) → IsBytes bytes → end ≤ length bytes → entry_read bytes o end ≡ Ok x → EntryStands bytes o end x.1 x.0
unfolding entry_read
entry_is_held bytes o end x fits inside e =
    let size = u16_at bytes (o + 2) in
    let made : AceKind → SidValue → Ace × ℕ = λ kind sid. (record { kind = kind; flags = record { 0 = bit_and (get_or bytes (o + 1) 0) all_named }; mask = u32_at bytes (o + 4); sid = sid }, size) in
    let with_sid : AceKind → Result (Ace × ℕ) WireFault = λ kind. sid_read bytes (o + 8) (o + size) >>= λ sid. Ok (made kind sid) in
    let with_kind : AceKind → Result (Ace × ℕ) WireFault = λ kind. cond (nat_lt size 16) (Err EntrySize) (with_sid kind) in
    let whole : Result (Ace × ℕ) WireFault = kind_read (get_or bytes o 0) >>= with_kind in
    let within_list : Result (Ace × ℕ) WireFault = cond (nat_lt end (o + size)) (Err EntrySize) whole in
    let aligned : Result (Ace × ℕ) WireFault = cond (not (size % 4 == 0)) (Err EntrySize) within_list in
    let wide : Result (Ace × ℕ) WireFault = cond (nat_lt size 4) (Err EntrySize) aligned in
    let header = passed (nat_lt end (o + 4)) EntrySize wide x e in
    let least = passed (nat_lt size 4) EntrySize aligned x header.1 in
    let even = passed (not (size % 4 == 0)) EntrySize within_list x least.1 in
    let within = passed (nat_lt end (o + size)) EntrySize whole x even.1 in
    let kind = bound (kind_read (get_or bytes o 0)) with_kind x within.1 in
    let room = passed (nat_lt size 16) EntrySize (with_sid kind.0) x kind.2 in
    let sid = bound (sid_read bytes (o + 8) (o + size)) (λ sid. good (made kind.0 sid)) x room.1 in
    let held = sid_is_held bytes (o + 8) (o + size) sid.0 fits sid.1 in
    let ends : o + size ≤ end = ltb-false _ _ within.0 in
    found_stands bytes o end (made kind.0 sid.0) x (good_is (made kind.0 sid.0) x sid.2) (record {
      flags = get_or bytes (o + 1) 0;
      known = refl;
      parts = parts_are_held bytes o kind.0 sid.0 fits (omega (arith, held.1)) (kind_is_held (get_or bytes o 0) kind.0 kind.1) held.0;
      aligned = eqb-true _ _ (not-false _ even.0);
      room = omega (arith, held.1);
      within = ends;
      short = omega (arith, fits (o + 2), fits (o + 2 + 1));
    })

entries_are_held : (bytes : List ℕ) (o end n : ℕ) (es : List Ace) → IsBytes bytes → end ≤ length bytes → entries_read bytes o end n ≡ Ok es → (n ≡ length es) × EntriesStand bytes o end es
unfolding entries_read
entries_are_held bytes o end zero es fits inside e = subst (λ (l : List Ace). (0 ≡ length l) × EntriesStand bytes o end l) (good_is [] es e) (refl, tt)
entries_are_held bytes o end (suc n) es fits inside e =
    let first = bound (entry_read bytes o end) _ es e in
    let others = bound (entries_read bytes (o + first.0.1) end n) _ es first.2 in
    let later = entries_are_held bytes (o + first.0.1) end n others.0 fits inside others.1 in
    subst (λ (l : List Ace). (suc n ≡ length l) × EntriesStand bytes o end l) (good_is (first.0.0 ∷ others.0) es others.2)
    (ap suc later.0, (first.0.1, entry_is_held bytes o end first.0 fits inside first.1, later.1))

list_is_held : (bytes : List ℕ) (o : ℕ) (es : List Ace) → IsBytes bytes → list_read bytes o ≡ Ok es → ListStands bytes o es
unfolding list_read
list_is_held bytes o es fits e =
    let revision = passed _ _ _ _ e in
    let header = passed _ _ _ _ revision.1 in
    let within = passed _ _ _ _ header.1 in
    let ends : o + u16_at bytes (o + 2) ≤ length bytes = ltb-false _ _ within.0 in
    let entries = entries_are_held bytes (o + 8) (o + u16_at bytes (o + 2)) (u16_at bytes (o + 4)) es fits ends within.1 in
    record {
      begins = record {
        revision = elim (or_cases (get_or bytes o 0 == 2) (get_or bytes o 0 == 4) (not-false _ revision.0)) [ inl two ↦ inl (eqb-true _ _ two) | inr four ↦ inr (eqb-true _ _ four) ];
        header = ltb-false _ _ header.0;
        within = ends;
      };
      count = entries.0;
      entries = entries.1;
    }

-- ---- owner, group and DACL

-- an offset that doesn't lead outside leads behind the header
behind_header : (bytes : List ℕ) (o : ℕ) → is_outside bytes o ≡ false → 20 ≤ o
behind_header bytes o h = ltb-false o 20 (or_parts (nat_lt o 20) (nat_lt (length bytes) (o + 8)) h).0

trustee_is_held : (bytes : List ℕ) (o : ℕ) (t : Option SidValue) → IsBytes bytes → trustee_read bytes o ≡ Ok t → TrusteeStands bytes o t
unfolding trustee_read
trustee_is_held bytes o t fits e =
    elim (chosen (o == 0) _ _ _ e) [
      | inl h ↦ subst (TrusteeStands bytes o) (good_is None t h.1) (eqb-true o 0 h.0)
      | inr h ↦
          let outside = passed (is_outside bytes o) _ _ _ h.1 in
          let sid = bound (sid_read bytes o (length bytes)) _ t outside.1 in
          subst (TrusteeStands bytes o) (good_is (Some sid.0) t sid.2) (behind_header bytes o outside.0, (sid_is_held bytes o (length bytes) sid.0 fits sid.1).0)
    ]

dacl_is_held : (bytes : List ℕ) (o : ℕ) (dacl : Dacl) → IsBytes bytes → dacl_read bytes o ≡ Ok dacl → DaclStands bytes o dacl
unfolding dacl_read
dacl_is_held bytes o dacl fits e =
    elim (chosen (o == 0) _ _ _ e) [
      | inl h ↦ subst (DaclStands bytes o) (good_is Null dacl h.1) (eqb-true o 0 h.0)
      | inr h ↦
          let outside = passed (is_outside bytes o) _ _ _ h.1 in
          let list = bound (list_read bytes o) _ dacl outside.1 in
          subst (DaclStands bytes o) (good_is (Entries list.0) dacl list.2) (behind_header bytes o outside.0, list_is_held bytes o list.0 fits list.1)
    ]

-- ---- descriptors

-- what the tests of a header tell
record Header (bytes : List ℕ) (control : ℕ) : Type 0 where
  long : 20 ≤ length bytes
  revision : get_or bytes 0 0 ≡ 1
  self_relative : is_set 0x8000 (u16_at bytes 2) ≡ true
  no_sacl : is_set 0x0010 (u16_at bytes 2) ≡ true → u32_at bytes 12 ≡ 0
  bits : u16_at bytes 2 ≡ control

header_is_held : (bytes : List ℕ) (control : ℕ) → control_read bytes ≡ Ok control → Header bytes control
unfolding control_read header_read
header_is_held bytes control e =
    let header = bound (header_read bytes) (λ (c : ℕ). cond (is_set 0x0010 c && not (u32_at bytes 12 == 0)) (Err HasSacl) (Ok c)) control e in
    let sacl = passed (is_set 0x0010 header.0 && not (u32_at bytes 12 == 0)) HasSacl (Ok header.0) control header.2 in
    let long = passed _ _ _ _ header.1 in
    let revision = passed _ _ _ _ long.1 in
    let self_relative = passed _ _ _ _ revision.1 in
    let is : u16_at bytes 2 ≡ header.0 = good_is (u16_at bytes 2) header.0 self_relative.1 in
    record {
      long = ltb-false _ _ long.0;
      revision = eqb-true _ _ (not-false _ revision.0);
      self_relative = not-false _ self_relative.0;
      no_sacl = λ set. elim (and_cases (is_set 0x0010 header.0) (not (u32_at bytes 12 == 0)) sacl.0) [
        | inl clear ↦ absurd (apart (sym (ap (is_set 0x0010) is) ∙ set) clear)
        | inr none ↦ eqb-true _ _ (not-false _ none)
      ];
      bits = is ∙ good_is header.0 control sacl.1;
    }
  where
    apart : {b : Bool} → b ≡ true → b ≡ false → ⊥
    apart set clear = cc

found_holds : (bytes : List ℕ) (d e : DescriptorValue) → d ≡ e → Holds bytes d → Holds bytes e
found_holds bytes d e same h = subst (Holds bytes) same h

pub readings_are_held : ReadingsAreHeld
unfolding descriptor_read
readings_are_held bytes d fits e =
    let with_dacl : ℕ → Option SidValue → Option SidValue → Dacl → DescriptorValue = λ control owner group dacl. record {
      owner = owner;
      group = group;
      dacl = dacl;
      protected = is_set 0x1000 control;
      auto_req = is_set 0x0100 control;
      auto_inherited = is_set 0x0400 control;
    } in
    let without : Option SidValue → Option SidValue → DescriptorValue = λ owner group. record { owner = owner; group = group; dacl = Absent; protected = false; auto_req = false; auto_inherited = false } in
    let present : ℕ → Option SidValue → Option SidValue → Result DescriptorValue WireFault = λ control owner group. dacl_read bytes (u32_at bytes 16) >>= λ dacl. Ok (with_dacl control owner group dacl) in
    let with_group : ℕ → Option SidValue → Option SidValue → Result DescriptorValue WireFault = λ control owner group. cond (is_set 0x0004 control) (present control owner group) (Ok (without owner group)) in
    let with_owner : ℕ → Option SidValue → Result DescriptorValue WireFault = λ control owner. trustee_read bytes (u32_at bytes 8) >>= with_group control owner in
    let with_control : ℕ → Result DescriptorValue WireFault = λ control. trustee_read bytes (u32_at bytes 4) >>= with_owner control in
    let control = bound (control_read bytes) with_control d e in
    let owner = bound (trustee_read bytes (u32_at bytes 4)) (with_owner control.0) d control.2 in
    let group = bound (trustee_read bytes (u32_at bytes 8)) (with_group control.0 owner.0) d owner.2 in
    let header = header_is_held bytes control.0 control.1 in
    let owner_held = trustee_is_held bytes (u32_at bytes 4) owner.0 fits owner.1 in
    let group_held = trustee_is_held bytes (u32_at bytes 8) group.0 fits group.1 in
    let bits : (mask : ℕ) → is_set mask (u16_at bytes 2) ≡ is_set mask control.0 = λ mask. ap (is_set mask) header.bits in
    elim (chosen (is_set 0x0004 control.0) (present control.0 owner.0 group.0) (good (without owner.0 group.0)) (good d) group.2) [
      | inl set ↦
          let dacl = bound (dacl_read bytes (u32_at bytes 16)) (λ dacl. good (with_dacl control.0 owner.0 group.0 dacl)) d set.1 in
          found_holds bytes (with_dacl control.0 owner.0 group.0 dacl.0) d (good_is (with_dacl control.0 owner.0 group.0 dacl.0) d dacl.2) (record {
            header = header.long;
            revision = header.revision;
            self_relative = header.self_relative;
            no_sacl = header.no_sacl;
            owner = owner_held;
            group = group_held;
            dacl = rw (bits 0x0004 ∙ set.0) (record {
              dacl = dacl_is_held bytes (u32_at bytes 16) dacl.0 fits dacl.1;
              protected = sym (bits 0x1000);
              auto_req = sym (bits 0x0100);
              auto_inherited = sym (bits 0x0400);
            });
          })
      | inr clear ↦
          found_holds bytes (without owner.0 group.0) d (good_is (without owner.0 group.0) d clear.1) (record {
            header = header.long;
            revision = header.revision;
            self_relative = header.self_relative;
            no_sacl = header.no_sacl;
            owner = owner_held;
            group = group_held;
            dacl = rw (bits 0x0004 ∙ clear.0) (record { dacl = refl; protected = refl; auto_req = refl; auto_inherited = refl });
          })
    ]

pub is_held : (bytes : List ℕ) (r : Result Descriptor WireError) → IsBytes bytes → Gives descriptor_of r (descriptor_read bytes) → IfOk r (λ d. Holds bytes (descriptor_of d))
is_held bytes (Ok d) fits given = readings_are_held bytes (descriptor_of d) fits given
is_held bytes (Err e) fits given = tt
