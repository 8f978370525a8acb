-- A descriptor that is written is parsed again.
use Rattle.sd_whole.proofs.Cited.{Absent, Null, Bool, IfSome, IsSid, IsWholeAcl, IsWholeDescriptor, IsWholeList, List, ListRevision, None, Ok, Option, SidValue, Some, WholeAcl, WholeDescriptor, WholeDescriptorsComeBack, WholeListValue, [], acl_part, and_assoc, and_le_r, and_or_apart, and_or_self, ap, append-nil, append_assoc, arith, bad_sid, bit_and, bit_or, bytes_of_sid, cond, dacl_place, drop, drop_at, false, flat_map, from_le_bytes-to_le_bytes_2, get_or, group_place, has_entries, is_outside, is_set, is_some, is_without, kept_bits, le-ltb, length, length-append, length_of_sid, nat_lt, ne_eqb, not, offset_of, or_of_16, refl, revision_number, revision_read, sacl_place, sid_read, sid_reading, sids_come_back, subst, sym, take, take_all, take_at, true, trustee_part, u16_at, u32_at, whole_acl_size, whole_control_of, whole_entry_bytes, ℕ, ◌++◌, ◌+◌, ◌-◌, ◌<◌, ◌==◌, ◌^◌, ◌∙◌, ◌≡◌, ◌≤◌}
use Rattle.sd_acl.specs.declared.descriptor.DaclOf.TheVariants.{List as Entries}
use Rattle.sd_whole.specs.declared.list.ListRevision.TheVariants.{Standard, DirectoryService}
use Rattle.sd_wire.proofs.WireIsHeld.{Fields, header_fields, offset_small, trustee_len}
use Rattle.sd_wire.specs.Reading.{entries_of, header_read, trustee_read}
use Rattle.sd_whole.specs.Reading.{acl_read, whole_entry_read, whole_list_read, whole_read}
use Rattle.sd_whole.specs.Writing.{whole_header_of, whole_list_bytes, whole_wire_of}
use Rattle.sd_whole.proofs.EntryAgain.{entries_again}
use Rattle.sd_whole.proofs.Lengths.{entries_take, length_of_entries, length_of_header, length_of_list}

-- ---- lists

revision_again : (r : ListRevision) → revision_read (revision_number r) ≡ Ok r
revision_again Standard = refl
revision_again DirectoryService = refl

list_again : (list : WholeListValue) (rest : List ℕ) → IsWholeList list → whole_list_read (whole_list_bytes list ++ rest) ≡ Ok list
unfolding whole_list_read whole_list_bytes
list_again list rest sound =
    let es = list.entries in
    let size = whole_acl_size es in
    let part = flat_map whole_entry_bytes es in
    let bytes = whole_list_bytes list ++ rest in
    let sized : u16_at bytes 2 ≡ size = from_le_bytes-to_le_bytes_2 size (omega (arith, sound.fit)) in
    let counted : u16_at bytes 4 ≡ length es = from_le_bytes-to_le_bytes_2 (length es) (omega (arith, entries_take es, sound.fit)) in
    let least : nat_lt size 8 ≡ false = le-ltb _ _ (omega arith) in
    let inside : nat_lt (length bytes) size ≡ false = le-ltb _ _ (omega (arith, length_of_entries es, length-append part rest)) in
    let behind : length part ≡ size - 8 = omega (arith, length_of_entries es) in
    let there : take (size - 8) (part ++ rest) ≡ part = take_at part rest (size - 8) behind in
    let read : entries_of whole_entry_read part (length es) ≡ Ok es = subst (λ (l : List ℕ). entries_of whole_entry_read l (length es) ≡ Ok es) (append-nil part) (entries_again es [] sound.each (omega (arith, sound.fit))) in
    rw (revision_again list.revision, sized, least, inside, counted, there, read) refl

-- ---- owner, group, SACL and DACL

not_zero : (o : ℕ) → 20 ≤ o → (o == 0) ≡ false
not_zero o h = ne_eqb _ _ (λ (zero_is : o ≡ 0). omega arith)

inside : (bytes : List ℕ) (o : ℕ) → 20 ≤ o → o + 8 ≤ length bytes → is_outside bytes o ≡ false
inside bytes o behind room =
    let low : nat_lt o 20 ≡ false = le-ltb _ _ behind in
    let high : nat_lt (length bytes) (o + 8) ≡ false = le-ltb _ _ room in
    rw (low, high) refl

acl_again : (present : Bool) (acl : WholeAcl) (front rest : List ℕ) → present ≡ not (is_without acl) → IsWholeAcl acl → 20 ≤ length front
    → acl_read present (front ++ (acl_part acl ++ rest)) (offset_of (has_entries acl) (length front)) ≡ Ok acl
unfolding acl_read
acl_again present Absent front rest there sound long = rw there refl
acl_again present Null front rest there sound long = rw there refl
acl_again present (Entries list) front rest there sound long =
    let o = length front in
    let part = whole_list_bytes list in
    let bytes = front ++ (part ++ rest) in
    let room : o + 8 ≤ length bytes = omega (arith, length-append front (part ++ rest), length-append part rest, length_of_list list) in
    let at : drop o bytes ≡ part ++ rest = drop_at front (part ++ rest) o refl in
    rw (there, not_zero o long, inside bytes o long room, at, list_again list rest sound) refl

trustee_again : (t : Option SidValue) (front rest : List ℕ) → IfSome t IsSid → 20 ≤ length front → trustee_read (front ++ (trustee_part t ++ rest)) (offset_of (is_some t) (length front)) ≡ Ok t
unfolding trustee_read
trustee_again None front rest sound long = refl
trustee_again (Some s) front rest sound long =
    let o = length front in
    let part = bytes_of_sid s in
    let bytes = front ++ (part ++ rest) in
    let total : length bytes ≡ o + (length part + length rest) = length-append front (part ++ rest) ∙ ap (λ n. o + n) (length-append part rest) in
    let room : o + 8 ≤ length bytes = omega (arith, length_of_sid s) in
    let range : take (length bytes - o) (drop o bytes) ≡ part ++ rest =
    ap (take (length bytes - o)) (drop_at front (part ++ rest) o refl) ∙ take_all (length bytes - o) (part ++ rest) (omega (arith, length-append part rest)) in
    let read : sid_read bytes o (length bytes) ≡ Ok s = ap (λ (l : List ℕ). bad_sid (sid_reading l)) range ∙ ap bad_sid (sids_come_back s rest sound) in
    rw (not_zero o long, inside bytes o long room, read) refl

-- ---- the header

-- what the control bits say
record Bits (c k : ℕ) (no_sacl no_dacl : Bool) : Type 0 where
  self_relative : is_set 0x8000 c ≡ true
  sacl : is_set 0x0010 c ≡ not no_sacl
  dacl : is_set 0x0004 c ≡ not no_dacl
  kept : bit_and c kept_bits ≡ k
  small : c < 2 ^ 16

-- a bit that isn't kept is clear in those that are
clear : (k m : ℕ) → bit_and kept_bits m ≡ 0 → bit_and (bit_and k kept_bits) m ≡ 0
clear k m h = and_assoc m k kept_bits ∙ ap (bit_and k) h ∙ (let none : bit_and k 0 ≡ 0 = omega (arith, and_le_r k 0) in none)

-- the bit of the SACL or the DACL has no part in others
module _ (n a m : ℕ) (b : Bool) (apart : bit_and m n ≡ 0) where
  beside : bit_and (bit_or a (cond b 0 m)) n ≡ bit_and a n
  beside = elim b as (λ x. bit_and (bit_or a (cond x 0 m)) n ≡ bit_and a n) [ true ↦ and_or_apart n a 0 refl | false ↦ and_or_apart n a m apart ]

bit_there : (b : Bool) (c a m : ℕ) → c ≡ bit_or a (cond b 0 m) → bit_and a m ≡ 0 → (m == 0) ≡ false → is_set m c ≡ not b
bit_there true c a m is none some = let same : bit_and c m ≡ 0 = ap (λ x. bit_and x m) is ∙ and_or_apart m a 0 refl ∙ none in rw same refl
bit_there false c a m is none some = let same : bit_and c m ≡ m = ap (λ x. bit_and x m) is ∙ and_or_self m a in rw (same, some) refl

small_choice : (b : Bool) (m : ℕ) → m < 2 ^ 16 → cond b 0 m < 2 ^ 16
small_choice true m h = omega arith
small_choice false m h = h

bits_are : (k : ℕ) (s d : Bool) → bit_and k kept_bits ≡ k → Bits (bit_or (bit_or (bit_or (bit_and k kept_bits) 0x8000) (cond s 0 0x0010)) (cond d 0 0x0004)) k s d
bits_are k s d sound =
    let base = bit_and k kept_bits in
    let front = bit_or base 0x8000 in
    let middle = bit_or front (cond s 0 0x0010) in
    let c = bit_or middle (cond d 0 0x0004) in
    let own : bit_and c 0x8000 ≡ 0x8000 = beside 0x8000 middle 0x0004 d refl ∙ beside 0x8000 front 0x0010 s refl ∙ and_or_self 0x8000 base in
    let sacl_bit : is_set 0x0010 c ≡ is_set 0x0010 middle = ap (λ x. not (x == 0)) (beside 0x0010 middle 0x0004 d refl) in
    let front_clear : (m : ℕ) → bit_and 0x8000 m ≡ 0 → bit_and kept_bits m ≡ 0 → bit_and front m ≡ 0 = λ m far low. and_or_apart m base 0x8000 far ∙ clear k m low in
    let middle_clear : bit_and middle 0x0004 ≡ 0 = beside 0x0004 front 0x0010 s refl ∙ front_clear 0x0004 refl refl in
    record {
      self_relative = rw own refl;
      sacl = sacl_bit ∙ bit_there s middle front 0x0010 refl (front_clear 0x0010 refl refl) refl;
      dacl = bit_there d c middle 0x0004 refl middle_clear refl;
      kept = beside kept_bits middle 0x0004 d refl ∙ beside kept_bits front 0x0010 s refl ∙ and_or_apart kept_bits base 0x8000 refl ∙ ap (λ x. bit_and x kept_bits) sound ∙ sound;
      small = or_of_16 middle (cond d 0 0x0004) (or_of_16 front (cond s 0 0x0010) (or_of_16 base 0x8000 (omega (arith, and_le_r k kept_bits)) (omega arith)) (small_choice s 0x0010 (omega arith))) (small_choice d 0x0004 (omega arith));
    }

-- ---- descriptors

acl_len : (acl : WholeAcl) → IsWholeAcl acl → length (acl_part acl) ≤ 65535
acl_len Absent sound = omega arith
acl_len Null sound = omega arith
acl_len (Entries list) sound = omega (arith, length_of_list list, sound.fit)

control_again : (bytes : List ℕ) (c : ℕ) → 20 ≤ length bytes → get_or bytes 0 0 ≡ 1 → u16_at bytes 2 ≡ c → is_set 0x8000 c ≡ true → header_read bytes ≡ Ok c
unfolding header_read
control_again bytes c long revision bits own =
    let header : nat_lt (length bytes) 20 ≡ false = le-ltb _ _ long in rw (header, revision, bits, own) refl

-- a header of 20 bytes whose fields are those of the descriptor, and the parts behind it
parts_again : (header : List ℕ) (d : WholeDescriptor) → length header ≡ 20 → IsWholeDescriptor d
    → Fields (header ++ (trustee_part d.owner ++ (trustee_part d.group ++ (acl_part d.sacl ++ acl_part d.dacl)))) d.resource_manager (whole_control_of d) (offset_of (is_some d.owner) 20)
    (offset_of (is_some d.group) (group_place d)) (offset_of (has_entries d.sacl) (sacl_place d)) (offset_of (has_entries d.dacl) (dacl_place d))
    → whole_read (header ++ (trustee_part d.owner ++ (trustee_part d.group ++ (acl_part d.sacl ++ acl_part d.dacl)))) ≡ Ok d
unfolding whole_read
parts_again header d size sound fields =
    let owner = trustee_part d.owner in
    let group = trustee_part d.group in
    let sacl = acl_part d.sacl in
    let dacl = acl_part d.dacl in
    let bytes = header ++ (owner ++ (group ++ (sacl ++ dacl))) in
    let c = whole_control_of d in
    let bits = bits_are d.control (is_without d.sacl) (is_without d.dacl) sound.control in
    let control : header_read bytes ≡ Ok c = control_again bytes c fields.long fields.revision fields.bits bits.self_relative in
    let owner_read : trustee_read bytes (u32_at bytes 4) ≡ Ok d.owner =
    subst (λ o. trustee_read bytes o ≡ Ok d.owner) (ap (λ o. offset_of (is_some d.owner) o) size ∙ sym fields.owner_at) (trustee_again d.owner header (group ++ (sacl ++ dacl)) sound.owner (omega arith)) in
    let front = header ++ owner in
    let front_long : length front ≡ group_place d = length-append header owner ∙ ap (λ n. n + length owner) size in
    let front_split : front ++ (group ++ (sacl ++ dacl)) ≡ bytes = append_assoc header owner (group ++ (sacl ++ dacl)) in
    let group_read : trustee_read bytes (u32_at bytes 8) ≡ Ok d.group =
    subst (λ o. trustee_read bytes o ≡ Ok d.group) (ap (λ o. offset_of (is_some d.group) o) front_long ∙ sym fields.group_at)
    (subst (λ l. trustee_read l (offset_of (is_some d.group) (length front)) ≡ Ok d.group) front_split (trustee_again d.group front (sacl ++ dacl) sound.group (omega arith))) in
    let middle = front ++ group in
    let middle_long : length middle ≡ sacl_place d = length-append front group ∙ ap (λ n. n + length group) front_long in
    let middle_split : middle ++ (sacl ++ dacl) ≡ bytes = append_assoc front group (sacl ++ dacl) ∙ front_split in
    let sacl_read : acl_read (is_set 0x0010 c) bytes (u32_at bytes 12) ≡ Ok d.sacl =
    subst (λ o. acl_read (is_set 0x0010 c) bytes o ≡ Ok d.sacl) (ap (λ o. offset_of (has_entries d.sacl) o) middle_long ∙ sym fields.sacl_at)
    (subst (λ l. acl_read (is_set 0x0010 c) l (offset_of (has_entries d.sacl) (length middle)) ≡ Ok d.sacl) middle_split (acl_again (is_set 0x0010 c) d.sacl middle dacl bits.sacl sound.sacl (omega arith))) in
    let behind = middle ++ sacl in
    let behind_long : length behind ≡ dacl_place d = length-append middle sacl ∙ ap (λ n. n + length sacl) middle_long in
    let behind_split : behind ++ (dacl ++ []) ≡ bytes = ap (λ (l : List ℕ). behind ++ l) (append-nil dacl) ∙ append_assoc middle sacl dacl ∙ middle_split in
    let dacl_read : acl_read (is_set 0x0004 c) bytes (u32_at bytes 16) ≡ Ok d.dacl =
    subst (λ o. acl_read (is_set 0x0004 c) bytes o ≡ Ok d.dacl) (ap (λ o. offset_of (has_entries d.dacl) o) behind_long ∙ sym fields.dacl_at)
    (subst (λ l. acl_read (is_set 0x0004 c) l (offset_of (has_entries d.dacl) (length behind)) ≡ Ok d.dacl) behind_split (acl_again (is_set 0x0004 c) d.dacl behind [] bits.dacl sound.dacl (omega arith))) in
    rw (control, owner_read, group_read, sacl_read, dacl_read, fields.manager_at, bits.kept) refl

pub descriptors_come_back : WholeDescriptorsComeBack
unfolding whole_wire_of whole_header_of
descriptors_come_back d sound =
    let owner = trustee_len d.owner sound.owner in
    let group = trustee_len d.group sound.group in
    let sacl = acl_len d.sacl sound.sacl in
    let bits = bits_are d.control (is_without d.sacl) (is_without d.dacl) sound.control in
    let rest = trustee_part d.owner ++ (trustee_part d.group ++ (acl_part d.sacl ++ acl_part d.dacl)) in
    parts_again (whole_header_of d) d (length_of_header d) sound
    (header_fields d.resource_manager (whole_control_of d) (offset_of (is_some d.owner) 20) (offset_of (is_some d.group) (group_place d)) (offset_of (has_entries d.sacl) (sacl_place d)) (offset_of (has_entries d.dacl) (dacl_place d)) rest
    bits.small (offset_small (is_some d.owner) 20 (omega arith)) (offset_small (is_some d.group) (group_place d) (omega arith)) (offset_small (has_entries d.sacl) (sacl_place d) (omega arith))
    (offset_small (has_entries d.dacl) (dacl_place d) (omega arith)))
