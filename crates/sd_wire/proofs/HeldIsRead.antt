-- What stands in the bytes is read.
use Rattle.sd_wire.proofs.Cited.{Absent, Ace, AceKind, AllByRecursion, Allow, AreEntries, Bool, Dacl, DaclStands, Deny, DescriptorValue, EntriesStand, EntryStands, Err, Holds, IfSome, IsAce, IsDacl, IsPresent, IsSid, IsWithout, List, ListStands, MatchBool-at_false, MatchBool-at_true, None, NoneIsHeldBesideAFault, Null, Ok, OneIsHeld, Option, SidValue, Some, Stands, TrusteeStands, WhatIsHeldIsRead, WireFault, [], add-zero, add_assoc, all_named, and_left, and_right, ap, arith, bad_sid, bit_and, bytes_of_sid, cases_Bool, drop, entry_parts, eq-eqb, false, from_le_bytes-to_le_bytes_2, from_le_bytes-to_le_bytes_4, get_or, inl, inr, is_outside, is_set, kind_byte, kind_read, le-ltb, length, length_of_sid, nat_lt, ne_eqb, not, refl, sid_read, sid_reading, sids_come_back, sym, take, to_le_bytes, true, u16_at, u32_at, w16, w32, ℕ, ◌%◌, ◌&&◌, ◌*◌, ◌++◌, ◌+◌, ◌-◌, ◌<◌, ◌==◌, ◌||◌, ◌∙◌, ◌∷◌, ◌≡◌, ◌≤◌}
use Rattle.sd_acl.specs.declared.descriptor.DaclOf.TheVariants.{List as Entries}
use Rattle.sd_wire.specs.Reading.{entry_read, entries_read, list_read, trustee_read, dacl_read, header_read, control_read, descriptor_read}
use Rattle.sd_wire.proofs.Found.{good, good_is}
use Rattle.sd_wire.proofs.Places.{stands_at, stands_within, stands_second, stands_range}

apart : (d : DescriptorValue) (fault : WireFault) → good d ≡ Err fault → ⊥
apart d fault e = cc

-- ---- SIDs

sid_is_read : (bytes : List ℕ) (o end : ℕ) (s : SidValue) → IsSid s → Stands bytes o (bytes_of_sid s) → o + (8 + 4 * length s.subs) ≤ end → sid_read bytes o end ≡ Ok s
sid_is_read bytes o end s sound h room =
    let rest = take (end - o - length (bytes_of_sid s)) (drop (length (bytes_of_sid s)) (drop o bytes)) in
    let range : take (end - o) (drop o bytes) ≡ bytes_of_sid s ++ rest = stands_range bytes o end (bytes_of_sid s) h (omega (arith, length_of_sid s)) in
    ap (λ (l : List ℕ). bad_sid (sid_reading l)) range ∙ ap bad_sid (sids_come_back s rest sound)

-- ---- entries

kind_is_read : (kind : AceKind) → kind_read (kind_byte kind) ≡ Ok kind
kind_is_read Allow = refl
kind_is_read Deny = refl

-- an entry whose fields were each read
entry_reads_as : (bytes : List ℕ) (o end size flags : ℕ) (e : Ace) → get_or bytes o 0 ≡ kind_byte e.kind → get_or bytes (o + 1) 0 ≡ flags → u16_at bytes (o + 2) ≡ size → u32_at bytes (o + 4) ≡ e.mask
    → sid_read bytes (o + 8) (o + size) ≡ Ok e.sid → bit_and flags all_named ≡ e.flags.0 → size % 4 ≡ 0 → 16 ≤ size → o + size ≤ end → entry_read bytes o end ≡ Ok (e, size)
unfolding entry_read
entry_reads_as bytes o end size flags e kind flagged sized mask sid known aligned room within =
    let header : nat_lt end (o + 4) ≡ false = le-ltb _ _ (omega arith) in
    let least : nat_lt size 4 ≡ false = le-ltb _ _ (omega arith) in
    let even : (size % 4 == 0) ≡ true = eq-eqb _ _ aligned in
    let inside : nat_lt end (o + size) ≡ false = le-ltb _ _ within in
    let wide : nat_lt size 16 ≡ false = le-ltb _ _ room in
    rw (sized, header, least, even, inside, kind, kind_is_read e.kind, wide, sid, flagged, known, mask) refl

pub entry_is_read : (bytes : List ℕ) (o end size : ℕ) (e : Ace) → IsAce e → EntryStands bytes o end size e → entry_read bytes o end ≡ Ok (e, size)
entry_is_read bytes o end size e sound h =
    let part = entry_parts e.kind h.flags size e.mask e.sid in
    let long : 16 ≤ length part = omega (arith, length_of_sid e.sid) in
    let at : (i : ℕ) → i < length part → get_or bytes (o + i) 0 ≡ get_or part i 0 = λ i lt. stands_at bytes o part i h.parts lt in
    let at_two : (k i : ℕ) → k + i < length part → get_or bytes (o + k + i) 0 ≡ get_or part (k + i) 0 = λ k i lt. ap (λ n. get_or bytes n 0) (add_assoc o k i) ∙ at (k + i) lt in
    let kind : get_or bytes o 0 ≡ kind_byte e.kind = ap (λ n. get_or bytes n 0) (sym (add-zero o)) ∙ at 0 (omega arith) in
    let sized : u16_at bytes (o + 2) ≡ size = rw (at 2 (omega arith), at_two 2 1 (omega arith)) (from_le_bytes-to_le_bytes_2 size h.short) in
    let mask : u32_at bytes (o + 4) ≡ e.mask = rw (at 4 (omega arith), at_two 4 1 (omega arith), at_two 4 2 (omega arith), at_two 4 3 (omega arith)) (from_le_bytes-to_le_bytes_4 e.mask sound.mask) in
    let header : List ℕ = kind_byte e.kind ∷ h.flags ∷ (to_le_bytes w16 size ++ to_le_bytes w32 e.mask) in
    let behind : Stands bytes (o + 8) (bytes_of_sid e.sid) = stands_second bytes o header (bytes_of_sid e.sid) h.parts in
    let sid : sid_read bytes (o + 8) (o + size) ≡ Ok e.sid = sid_is_read bytes (o + 8) (o + size) e.sid sound.sid behind (omega (arith, h.room)) in
    entry_reads_as bytes o end size h.flags e kind (at 1 (omega arith)) sized mask sid h.known h.aligned (omega (arith, h.room)) h.within

pub entries_are_read : (bytes : List ℕ) (o end : ℕ) (es : List Ace) → AllByRecursion IsAce es → EntriesStand bytes o end es → entries_read bytes o end (length es) ≡ Ok es
unfolding entries_read
entries_are_read bytes o end [] sound h = refl
entries_are_read bytes o end (e ∷ es) sound h =
    rw (entry_is_read bytes o end h.0 e sound.0 h.1, entries_are_read bytes (o + h.0) end es sound.1 h.2) refl

-- ---- lists

list_is_read : (bytes : List ℕ) (o : ℕ) (es : List Ace) → AreEntries es → ListStands bytes o es → list_read bytes o ≡ Ok es
unfolding list_read
list_is_read bytes o es sound h =
    let revision : (get_or bytes o 0 == 2 || get_or bytes o 0 == 4) ≡ true = elim h.begins.revision [ inl two ↦ rw two refl | inr four ↦ rw four refl ] in
    let least : nat_lt (u16_at bytes (o + 2)) 8 ≡ false = le-ltb _ _ h.begins.header in
    let inside : nat_lt (length bytes) (o + u16_at bytes (o + 2)) ≡ false = le-ltb _ _ h.begins.within in
    rw (revision, least, inside, h.count) (entries_are_read bytes (o + 8) (o + u16_at bytes (o + 2)) es sound.each h.entries)

-- ---- owner, group and DACL

inside : (bytes : List ℕ) (o : ℕ) → 20 ≤ o → o + 8 ≤ length bytes → is_outside bytes o ≡ false
inside bytes o behind room =
    let low : nat_lt o 20 ≡ false = le-ltb _ _ behind in
    let high : nat_lt (length bytes) (o + 8) ≡ false = le-ltb _ _ room in
    rw (low, high) refl

not_zero : (o : ℕ) → 20 ≤ o → (o == 0) ≡ false
not_zero o h = ne_eqb _ _ (λ (zero_is : o ≡ 0). omega arith)

trustee_is_read : (bytes : List ℕ) (o : ℕ) (t : Option SidValue) → IfSome t IsSid → TrusteeStands bytes o t → trustee_read bytes o ≡ Ok t
unfolding trustee_read
trustee_is_read bytes o None sound h = rw h refl
trustee_is_read bytes o (Some s) sound h =
    let within : o + (8 + 4 * length s.subs) ≤ length bytes = omega (arith, length_of_sid s, stands_within bytes o (bytes_of_sid s) h.1 (omega (arith, length_of_sid s))) in
    rw (not_zero o h.0, inside bytes o h.0 (omega arith), sid_is_read bytes o (length bytes) s sound h.1 within) refl

dacl_is_read : (bytes : List ℕ) (o : ℕ) (dacl : Dacl) → IsDacl dacl → DaclStands bytes o dacl → dacl_read bytes o ≡ Ok dacl
unfolding dacl_read
dacl_is_read bytes o Absent sound h = absurd h
dacl_is_read bytes o Null sound h = rw h refl
dacl_is_read bytes o (Entries es) sound h =
    rw (not_zero o h.0, inside bytes o h.0 (omega (arith, h.1.begins.header, h.1.begins.within)), list_is_read bytes o es sound h.1) refl

-- ---- descriptors

control_is_read : (bytes : List ℕ) (d : DescriptorValue) → Holds bytes d → control_read bytes ≡ Ok (u16_at bytes 2)
unfolding control_read header_read
control_is_read bytes d h =
    let long : nat_lt (length bytes) 20 ≡ false = le-ltb _ _ h.header in
    let no_sacl : (is_set 0x0010 (u16_at bytes 2) && not (u32_at bytes 12 == 0)) ≡ false = elim (cases_Bool (is_set 0x0010 (u16_at bytes 2))) [
      | inl set ↦ rw (h.no_sacl set) (and_right (is_set 0x0010 (u16_at bytes 2)) false refl)
      | inr clear ↦ and_left (is_set 0x0010 (u16_at bytes 2)) (not (u32_at bytes 12 == 0)) clear
    ] in
    rw (long, h.revision, h.self_relative, no_sacl) refl

-- a descriptor whose fields were each read
reads_as : (d : DescriptorValue) (dacl : Dacl) (protected auto_req auto_inherited : Bool) → d.dacl ≡ dacl → d.protected ≡ protected → d.auto_req ≡ auto_req → d.auto_inherited ≡ auto_inherited
    → good (record { owner = d.owner; group = d.group; dacl = dacl; protected = protected; auto_req = auto_req; auto_inherited = auto_inherited }) ≡ good d
reads_as d dacl protected auto_req auto_inherited dacl_is protected_is req_is inherited_is = rw (← dacl_is, ← protected_is, ← req_is, ← inherited_is) refl

pub held_is_read : WhatIsHeldIsRead
unfolding descriptor_read
held_is_read bytes d sound h =
    let control = control_is_read bytes d h in
    let owner = trustee_is_read bytes (u32_at bytes 4) d.owner sound.owner h.owner in
    let group = trustee_is_read bytes (u32_at bytes 8) d.group sound.group h.group in
    elim (cases_Bool (is_set 0x0004 (u16_at bytes 2))) [
      | inl set ↦
          let p : IsPresent bytes d = MatchBool-at_true (IsPresent bytes d) (IsWithout d) set h.dacl in
          let dacl = dacl_is_read bytes (u32_at bytes 16) d.dacl sound.dacl p.dacl in
          rw (control, owner, group, set, dacl) (reads_as d d.dacl _ _ _ refl p.protected p.auto_req p.auto_inherited)
      | inr clear ↦
          let p : IsWithout d = MatchBool-at_false (IsPresent bytes d) (IsWithout d) clear h.dacl in
          rw (control, owner, group, clear) (reads_as d Absent false false false p.dacl p.protected p.auto_req p.auto_inherited)
    ]

pub one_is_held : OneIsHeld
one_is_held bytes d e sound_d sound_e holds_d holds_e = good_is d e (sym (held_is_read bytes d sound_d holds_d) ∙ held_is_read bytes e sound_e holds_e)

pub none_beside_a_fault : NoneIsHeldBesideAFault
none_beside_a_fault bytes d fault sound h failed = apart d fault (sym (held_is_read bytes d sound h) ∙ failed)
