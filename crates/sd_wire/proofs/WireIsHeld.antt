-- What is written holds the descriptor, and so is read again.
use Rattle.sd_wire.proofs.Cited.{Absent, Ace, AllByRecursion, AreEntries, Bool, Dacl, DaclStands, DescriptorValue, DescriptorsComeBack, EntriesStand, EntryStands, HasNamedFlags, HaveNamedFlags, Holds, IfSome, IsAce, IsDacl, IsDescriptor, IsPresent, IsSid, IsTrue, IsWithout, List, ListStands, MatchBool, None, Null, Option, SidValue, Some, TrusteeStands, [], ace_size, acl_size_of, add-zero, all_named, ap, append-nil, append_assoc, arith, bit_and, bit_or, bytes_of_sid, cond, control_of, dacl_part, entry_parts, false, flat_map, from_le_bytes-to_le_bytes_2, from_le_bytes-to_le_bytes_4, get_or, get_or-append-add, inl, is_absent, is_list, is_set, is_some, length, length-append, length_of_sid, lit<, not, not-false, not-true, offset_of, refl, subst, sum_by, sum_by-cons, sym, to_le_bytes, true, trustee_part, u16_at, u32_at, w16, ℕ, ◌&&◌, ◌++◌, ◌+◌, ◌<◌, ◌^◌, ◌∙◌, ◌∷◌, ◌≡◌, ◌≤◌}
use Rattle.sd_acl.specs.declared.descriptor.DaclOf.TheVariants.{List as Entries}
use Rattle.sd_wire.specs.Writing.{entry_bytes, list_bytes, header_bytes, header_of, wire_of}
use Rattle.sd_wire.proofs.Lengths.{length_of_entry, length_of_list, length_of_header, few_entries}
use Rattle.sd_wire.proofs.Places.{u16_behind, stands_behind_front}
use Rattle.sd_wire.proofs.HeldIsRead.{held_is_read}

-- ---- the header

-- the fields of a header, whatever stands behind it
pub record Fields (bytes : List ℕ) (manager control owner group sacl dacl : ℕ) : Type 0 where
  pub long : 20 ≤ length bytes
  pub revision : get_or bytes 0 0 ≡ 1
  pub manager_at : get_or bytes 1 0 ≡ manager
  pub bits : u16_at bytes 2 ≡ control
  pub owner_at : u32_at bytes 4 ≡ owner
  pub group_at : u32_at bytes 8 ≡ group
  pub sacl_at : u32_at bytes 12 ≡ sacl
  pub dacl_at : u32_at bytes 16 ≡ dacl

pub header_fields : (manager control owner group sacl dacl : ℕ) (rest : List ℕ) → control < 2 ^ 16 → owner < 2 ^ 32 → group < 2 ^ 32 → sacl < 2 ^ 32 → dacl < 2 ^ 32
    → Fields (header_bytes manager control owner group sacl dacl ++ rest) manager control owner group sacl dacl
unfolding header_bytes
header_fields manager control owner group sacl dacl rest c o g s d = record {
  long = omega arith;
  revision = refl;
  manager_at = refl;
  bits = from_le_bytes-to_le_bytes_2 control c;
  owner_at = from_le_bytes-to_le_bytes_4 owner o;
  group_at = from_le_bytes-to_le_bytes_4 group g;
  sacl_at = from_le_bytes-to_le_bytes_4 sacl s;
  dacl_at = from_le_bytes-to_le_bytes_4 dacl d;
}

-- what the control bits of four choices say
record Bits (c : ℕ) (absent auto_req auto_inherited protected : Bool) : Type 0 where
  self_relative : is_set 0x8000 c ≡ true
  no_sacl : is_set 0x0010 c ≡ false
  present : is_set 0x0004 c ≡ not absent
  requires_inheritance : is_set 0x0100 c ≡ auto_req
  inherited : is_set 0x0400 c ≡ auto_inherited
  keeps_out : is_set 0x1000 c ≡ protected
  small : c < 2 ^ 16

abbrev bits_at : Bool → Bool → Bool → Bool → Type 0
bits_at absent auto_req auto_inherited protected =
    Bits (bit_or (bit_or (bit_or (bit_or 0x8000 (cond absent 0 0x0004)) (cond auto_req 0x0100 0)) (cond auto_inherited 0x0400 0)) (cond protected 0x1000 0)) absent auto_req auto_inherited protected

bits_are : (absent auto_req auto_inherited protected : Bool) → bits_at absent auto_req auto_inherited protected
bits_are true true true true = record { self_relative = refl; no_sacl = refl; present = refl; requires_inheritance = refl; inherited = refl; keeps_out = refl; small = lit< tt }
bits_are true true true false = record { self_relative = refl; no_sacl = refl; present = refl; requires_inheritance = refl; inherited = refl; keeps_out = refl; small = lit< tt }
bits_are true true false true = record { self_relative = refl; no_sacl = refl; present = refl; requires_inheritance = refl; inherited = refl; keeps_out = refl; small = lit< tt }
bits_are true true false false = record { self_relative = refl; no_sacl = refl; present = refl; requires_inheritance = refl; inherited = refl; keeps_out = refl; small = lit< tt }
bits_are true false true true = record { self_relative = refl; no_sacl = refl; present = refl; requires_inheritance = refl; inherited = refl; keeps_out = refl; small = lit< tt }
bits_are true false true false = record { self_relative = refl; no_sacl = refl; present = refl; requires_inheritance = refl; inherited = refl; keeps_out = refl; small = lit< tt }
bits_are true false false true = record { self_relative = refl; no_sacl = refl; present = refl; requires_inheritance = refl; inherited = refl; keeps_out = refl; small = lit< tt }
bits_are true false false false = record { self_relative = refl; no_sacl = refl; present = refl; requires_inheritance = refl; inherited = refl; keeps_out = refl; small = lit< tt }
bits_are false true true true = record { self_relative = refl; no_sacl = refl; present = refl; requires_inheritance = refl; inherited = refl; keeps_out = refl; small = lit< tt }
bits_are false true true false = record { self_relative = refl; no_sacl = refl; present = refl; requires_inheritance = refl; inherited = refl; keeps_out = refl; small = lit< tt }
bits_are false true false true = record { self_relative = refl; no_sacl = refl; present = refl; requires_inheritance = refl; inherited = refl; keeps_out = refl; small = lit< tt }
bits_are false true false false = record { self_relative = refl; no_sacl = refl; present = refl; requires_inheritance = refl; inherited = refl; keeps_out = refl; small = lit< tt }
bits_are false false true true = record { self_relative = refl; no_sacl = refl; present = refl; requires_inheritance = refl; inherited = refl; keeps_out = refl; small = lit< tt }
bits_are false false true false = record { self_relative = refl; no_sacl = refl; present = refl; requires_inheritance = refl; inherited = refl; keeps_out = refl; small = lit< tt }
bits_are false false false true = record { self_relative = refl; no_sacl = refl; present = refl; requires_inheritance = refl; inherited = refl; keeps_out = refl; small = lit< tt }
bits_are false false false false = record { self_relative = refl; no_sacl = refl; present = refl; requires_inheritance = refl; inherited = refl; keeps_out = refl; small = lit< tt }

-- ---- entries and lists

entry_is_held : (front rest : List ℕ) (end : ℕ) (e : Ace) → IsAce e → HasNamedFlags e → length front + ace_size e ≤ end
    → EntryStands (front ++ (entry_bytes e ++ rest)) (length front) end (ace_size e) e
unfolding entry_bytes
entry_is_held front rest end e sound known within = record {
  flags = bit_and e.flags.0 all_named;
  known = ap (λ f. bit_and f all_named) known ∙ known;
  parts = stands_behind_front front (entry_parts e.kind (bit_and e.flags.0 all_named) (ace_size e) e.mask e.sid) rest;
  aligned = omega arith;
  room = omega arith;
  within = within;
  short = omega (arith, sound.sid.few);
}

entries_are_held : (front rest : List ℕ) (end : ℕ) (es : List Ace) → AllByRecursion IsAce es → AllByRecursion HasNamedFlags es → length front + sum_by ace_size es ≤ end
    → EntriesStand (front ++ (flat_map entry_bytes es ++ rest)) (length front) end es
entries_are_held front rest end [] sound known within = tt
entries_are_held front rest end (e ∷ es) sound known within =
    let sizes = sum_by-cons ace_size e es in
    let others = flat_map entry_bytes es ++ rest in
    let split : front ++ ((entry_bytes e ++ flat_map entry_bytes es) ++ rest) ≡ front ++ (entry_bytes e ++ others) = ap (λ (l : List ℕ). front ++ l) (append_assoc (entry_bytes e) (flat_map entry_bytes es) rest) in
    let further : front ++ ((entry_bytes e ++ flat_map entry_bytes es) ++ rest) ≡ (front ++ entry_bytes e) ++ others = split ∙ sym (append_assoc front (entry_bytes e) others) in
    let next : length (front ++ entry_bytes e) ≡ length front + ace_size e = length-append front (entry_bytes e) ∙ ap (λ n. length front + n) (length_of_entry e) in
    let first : EntryStands (front ++ (entry_bytes e ++ others)) (length front) end (ace_size e) e = entry_is_held front others end e sound.0 known.0 (omega (arith, sizes)) in
    let later : EntriesStand ((front ++ entry_bytes e) ++ others) (length (front ++ entry_bytes e)) end es = entries_are_held (front ++ entry_bytes e) rest end es sound.1 known.1 (omega (arith, sizes, next)) in (
      ace_size e,
      subst (λ l. EntryStands l (length front) end (ace_size e) e) (sym split) first,
      subst (λ o. EntriesStand (front ++ ((entry_bytes e ++ flat_map entry_bytes es) ++ rest)) o end es) next (subst (λ l. EntriesStand l (length (front ++ entry_bytes e)) end es) (sym further) later),
    )

list_is_held : (front rest : List ℕ) (es : List Ace) → AreEntries es → AllByRecursion HasNamedFlags es → ListStands (front ++ (list_bytes es ++ rest)) (length front) es
unfolding list_bytes
list_is_held front rest es sound known =
    let bytes = front ++ (list_bytes es ++ rest) in
    let header : List ℕ = 2 ∷ 0 ∷ (to_le_bytes w16 (acl_size_of es) ++ (to_le_bytes w16 (length es) ++ 0 ∷ 0 ∷ [])) in
    let sized : u16_at bytes (length front + 2) ≡ acl_size_of es = u16_behind front (list_bytes es ++ rest) 2 ∙ from_le_bytes-to_le_bytes_2 (acl_size_of es) (omega (arith, sound.fit)) in
    let split : (front ++ header) ++ (flat_map entry_bytes es ++ rest) ≡ bytes = append_assoc front header (flat_map entry_bytes es ++ rest) in
    let place : length (front ++ header) ≡ length front + 8 = length-append front header in
    let entries : EntriesStand ((front ++ header) ++ (flat_map entry_bytes es ++ rest)) (length (front ++ header)) (length front + acl_size_of es) es =
    entries_are_held (front ++ header) rest (length front + acl_size_of es) es sound.each known (omega (arith, place)) in
    let moved : EntriesStand bytes (length front + 8) (length front + acl_size_of es) es =
    subst (λ o. EntriesStand bytes o (length front + acl_size_of es) es) place (subst (λ l. EntriesStand l (length (front ++ header)) (length front + acl_size_of es) es) split entries) in
    record {
      begins = record {
        revision = inl (ap (λ k. get_or bytes k 0) (sym (add-zero (length front))) ∙ get_or-append-add front (list_bytes es ++ rest) 0 0);
        header = omega (arith, sized);
        within = omega (arith, sized, length-append front (list_bytes es ++ rest), length-append (list_bytes es) rest, length_of_list es);
      };
      count = u16_behind front (list_bytes es ++ rest) 4 ∙ from_le_bytes-to_le_bytes_2 (length es) (few_entries es sound.fit);
      entries = subst (λ n. EntriesStand bytes (length front + 8) (length front + n) es) (sym sized) moved;
    }

-- ---- owner, group and DACL

trustee_is_held : (front rest : List ℕ) (t : Option SidValue) → 20 ≤ length front → TrusteeStands (front ++ (trustee_part t ++ rest)) (offset_of (is_some t) (length front)) t
trustee_is_held front rest None h = refl
trustee_is_held front rest (Some s) h = (h, stands_behind_front front (bytes_of_sid s) rest)

dacl_is_held : (front rest : List ℕ) (dacl : Dacl) → is_absent dacl ≡ false → IsDacl dacl → HaveNamedFlags dacl → 20 ≤ length front → DaclStands (front ++ (dacl_part dacl ++ rest)) (offset_of (is_list dacl) (length front)) dacl
dacl_is_held front rest Absent there sound known h = absurd cc
dacl_is_held front rest Null there sound known h = refl
dacl_is_held front rest (Entries es) there sound known h = (h, list_is_held front rest es sound known)

-- ---- descriptors

absent_is : (dacl : Dacl) → is_absent dacl ≡ true → dacl ≡ Absent
absent_is Absent h = refl
absent_is Null h = absurd cc
absent_is (Entries es) h = absurd cc

all_clear : (p r i : Bool) → IsTrue (not p && not r && not i) → (p ≡ false) × (r ≡ false) × (i ≡ false)
all_clear false false false h = (refl, refl, refl)
all_clear true true true h = absurd cc
all_clear true true false h = absurd cc
all_clear true false true h = absurd cc
all_clear true false false h = absurd cc
all_clear false true true h = absurd cc
all_clear false true false h = absurd cc
all_clear false false true h = absurd cc

both_ways : (b : Bool) (P Q : Type 0) → (b ≡ true → P) → (b ≡ false → Q) → MatchBool b P Q
both_ways true P Q p q = p refl
both_ways false P Q p q = q refl

pub trustee_len : (t : Option SidValue) → IfSome t IsSid → length (trustee_part t) ≤ 68
trustee_len None sound = omega arith
trustee_len (Some s) sound = omega (arith, length_of_sid s, sound.few)

pub offset_small : (b : Bool) (o : ℕ) → o < 2 ^ 32 → offset_of b o < 2 ^ 32
offset_small true o h = h
offset_small false o h = omega arith

-- a header of 20 bytes whose fields are those of the descriptor, and the parts behind it
parts_are_held : (header : List ℕ) (d : DescriptorValue) → length header ≡ 20 → IsDescriptor d → HaveNamedFlags d.dacl
    → Fields (header ++ (trustee_part d.owner ++ (trustee_part d.group ++ dacl_part d.dacl))) 0 (control_of d) (offset_of (is_some d.owner) 20) (offset_of (is_some d.group) (20 + length (trustee_part d.owner))) 0
    (offset_of (is_list d.dacl) (20 + length (trustee_part d.owner) + length (trustee_part d.group)))
    → Holds (header ++ (trustee_part d.owner ++ (trustee_part d.group ++ dacl_part d.dacl))) d
parts_are_held header d size sound known fields =
    let owner = trustee_part d.owner in
    let group = trustee_part d.group in
    let dacl = dacl_part d.dacl in
    let bytes = header ++ (owner ++ (group ++ dacl)) in
    let bits = bits_are (is_absent d.dacl) d.auto_req d.auto_inherited d.protected in
    let says : (mask : ℕ) → is_set mask (u16_at bytes 2) ≡ is_set mask (control_of d) = λ mask. ap (is_set mask) fields.bits in
    let owner_held : TrusteeStands bytes (offset_of (is_some d.owner) 20) d.owner =
    subst (λ o. TrusteeStands bytes (offset_of (is_some d.owner) o) d.owner) size (trustee_is_held header (group ++ dacl) d.owner (omega arith)) in
    let group_place : length (header ++ owner) ≡ 20 + length owner = length-append header owner ∙ ap (λ n. n + length owner) size in
    let group_held : TrusteeStands bytes (offset_of (is_some d.group) (20 + length owner)) d.group =
    subst (λ l. TrusteeStands l (offset_of (is_some d.group) (20 + length owner)) d.group) (append_assoc header owner (group ++ dacl))
    (subst (λ o. TrusteeStands ((header ++ owner) ++ (group ++ dacl)) (offset_of (is_some d.group) o) d.group) group_place (trustee_is_held (header ++ owner) dacl d.group (omega (arith, group_place)))) in
    let dacl_place : length ((header ++ owner) ++ group) ≡ 20 + length owner + length group = length-append (header ++ owner) group ∙ ap (λ n. n + length group) group_place in
    let regrouped : ((header ++ owner) ++ group) ++ (dacl ++ []) ≡ bytes =
    ap (λ (l : List ℕ). ((header ++ owner) ++ group) ++ l) (append-nil dacl) ∙ append_assoc (header ++ owner) group dacl ∙ append_assoc header owner (group ++ dacl) in
    let dacl_held : is_absent d.dacl ≡ false → DaclStands bytes (offset_of (is_list d.dacl) (20 + length owner + length group)) d.dacl = λ there.
    subst (λ l. DaclStands l (offset_of (is_list d.dacl) (20 + length owner + length group)) d.dacl) regrouped
    (subst (λ o. DaclStands (((header ++ owner) ++ group) ++ (dacl ++ [])) (offset_of (is_list d.dacl) o) d.dacl) dacl_place (dacl_is_held ((header ++ owner) ++ group) [] d.dacl there sound.dacl known (omega (arith, dacl_place)))) in
    record {
      header = fields.long;
      revision = fields.revision;
      self_relative = says 0x8000 ∙ bits.self_relative;
      no_sacl = λ set. fields.sacl_at;
      owner = subst (λ o. TrusteeStands bytes o d.owner) (sym fields.owner_at) owner_held;
      group = subst (λ o. TrusteeStands bytes o d.group) (sym fields.group_at) group_held;
      dacl = both_ways (is_set 0x0004 (u16_at bytes 2)) (IsPresent bytes d) (IsWithout d)
          (λ set. record {
            dacl = subst (λ o. DaclStands bytes o d.dacl) (sym fields.dacl_at) (dacl_held (not-true _ (sym bits.present ∙ sym (says 0x0004) ∙ set)));
            protected = sym (says 0x1000 ∙ bits.keeps_out);
            auto_req = sym (says 0x0100 ∙ bits.requires_inheritance);
            auto_inherited = sym (says 0x0400 ∙ bits.inherited);
          })
          (λ clear.
          let absent : is_absent d.dacl ≡ true = not-false _ (sym bits.present ∙ sym (says 0x0004) ∙ clear) in
          let flags = all_clear d.protected d.auto_req d.auto_inherited (sound.without_a_dacl absent) in
          record { dacl = absent_is d.dacl absent; protected = flags.0; auto_req = flags.1; auto_inherited = flags.2 });
    }

wire_is_held : (d : DescriptorValue) → IsDescriptor d → HaveNamedFlags d.dacl → Holds (wire_of d) d
unfolding wire_of header_of
wire_is_held d sound known =
    let short_owner = trustee_len d.owner sound.owner in
    let short_group = trustee_len d.group sound.group in
    let small : control_of d < 2 ^ 16 = (bits_are (is_absent d.dacl) d.auto_req d.auto_inherited d.protected).small in
    parts_are_held (header_of d) d (length_of_header d) sound known
    (header_fields 0 (control_of d) (offset_of (is_some d.owner) 20) (offset_of (is_some d.group) (20 + length (trustee_part d.owner))) 0 (offset_of (is_list d.dacl) (20 + length (trustee_part d.owner) + length (trustee_part d.group)))
    (trustee_part d.owner ++ (trustee_part d.group ++ dacl_part d.dacl)) small (offset_small (is_some d.owner) 20 (omega arith)) (offset_small (is_some d.group) (20 + length (trustee_part d.owner)) (omega arith))
    (omega arith) (offset_small (is_list d.dacl) (20 + length (trustee_part d.owner) + length (trustee_part d.group)) (omega arith)))

pub descriptors_come_back : DescriptorsComeBack
descriptors_come_back d sound known = held_is_read (wire_of d) d sound (wire_is_held d sound known)
