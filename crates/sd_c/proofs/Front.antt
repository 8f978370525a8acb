-- What the front of the bytes holds, as far as the descriptor's last part.
use Rattle.sd_c.proofs.Cited.{Absent, Ace, Bool, Dacl, DaclStands, DescriptorValue, EntriesStand, EntryStands, Holds, IsDescriptor, IsPresent, IsWithout, ListStands, MatchBool, None, Null, Ok, Option, SidValue, Some, Stands, TrusteeStands, [], ap, arith, bytes_of_sid, dacl_end, descriptor_end, descriptor_read, drop-take, entry_parts, false, get_or-take, held_is_read, is_set, length, length-take, length_of_sid, readings_are_held, refl, slice_index, take, take-take, true, trustee_end, u16_at, u32_at, ℕ, ◌+◌, ◌-◌, ◌<◌, ◌∙◌, ◌≡◌, ◌≤◌}
use Rattle.std.proofs.Common.{List, ◌∷◌, drop}
use Rattle.sd_acl.specs.declared.descriptor.DaclOf.TheVariants.{List as Entries}

byte : (bytes : List ℕ) (n i : ℕ) → i < n → slice_index (take n bytes) i ≡ slice_index bytes i
byte bytes n i h = get_or-take n bytes i 0 h

u16_front : (bytes : List ℕ) (n o : ℕ) → o + 2 ≤ n → u16_at (take n bytes) o ≡ u16_at bytes o
u16_front bytes n o h = rw (byte bytes n o (omega arith), byte bytes n (o + 1) (omega arith)) refl

u32_front : (bytes : List ℕ) (n o : ℕ) → o + 4 ≤ n → u32_at (take n bytes) o ≡ u32_at bytes o
u32_front bytes n o h = rw (byte bytes n o (omega arith), byte bytes n (o + 1) (omega arith), byte bytes n (o + 2) (omega arith), byte bytes n (o + 3) (omega arith)) refl

part_front : (bytes : List ℕ) (n o k : ℕ) → o + k ≤ n → take k (drop o (take n bytes)) ≡ take k (drop o bytes)
part_front bytes n o k h =
    let e : n ≡ o + (n - o) = omega arith in
    ap (λ (m : ℕ). take k (drop o (take m bytes))) e ∙ ap (λ (xs : List ℕ). take k xs) (drop-take o (n - o) bytes) ∙ take-take k (n - o) (drop o bytes) (omega arith)

stands_front : (bytes : List ℕ) (n o : ℕ) (part : List ℕ) → o + length part ≤ n → Stands bytes o part → Stands (take n bytes) o part
stands_front bytes n o part h stands = part_front bytes n o (length part) h ∙ stands

trustee_front : (bytes : List ℕ) (n o : ℕ) (t : Option SidValue) → trustee_end o t ≤ n → TrusteeStands bytes o t → TrusteeStands (take n bytes) o t
trustee_front bytes n o None h stands = stands
trustee_front bytes n o (Some s) h stands = (stands.0, stands_front bytes n o (bytes_of_sid s) (omega (arith, length_of_sid s)) stands.1)

entry_front : (bytes : List ℕ) (n o end size : ℕ) (e : Ace) → end ≤ n → EntryStands bytes o end size e → EntryStands (take n bytes) o end size e
entry_front bytes n o end size e h stands = record {
  flags = stands.flags;
  known = stands.known;
  parts = stands_front bytes n o (entry_parts e.kind stands.flags size e.mask e.sid) (omega (arith, length_of_sid e.sid, stands.room, stands.within)) stands.parts;
  aligned = stands.aligned;
  room = stands.room;
  within = stands.within;
  short = stands.short;
}

entries_front : (bytes : List ℕ) (n o end : ℕ) (es : List Ace) → end ≤ n → EntriesStand bytes o end es → EntriesStand (take n bytes) o end es
entries_front bytes n o end [] h stands = stands
entries_front bytes n o end (e ∷ es) h stands = (stands.0, entry_front bytes n o end stands.0 e h stands.1, entries_front bytes n (o + stands.0) end es h stands.2)

list_front : (bytes : List ℕ) (n o : ℕ) (es : List Ace) → o + u16_at bytes (o + 2) ≤ n → ListStands bytes o es → ListStands (take n bytes) o es
list_front bytes n o es h stands =
    let begins = stands.begins in
    let header : 8 ≤ u16_at bytes (o + 2) = begins.header in
    let same_size : u16_at (take n bytes) (o + 2) ≡ u16_at bytes (o + 2) = u16_front bytes n (o + 2) (omega arith) in
    let same_count : u16_at (take n bytes) (o + 4) ≡ u16_at bytes (o + 4) = u16_front bytes n (o + 4) (omega arith) in
    record {
      begins = record {
        revision = rw (byte bytes n o (omega arith)) begins.revision;
        header = rw same_size begins.header;
        within = rw same_size (omega (arith, begins.within, length-take n bytes));
      };
      count = same_count ∙ stands.count;
      entries = rw same_size (entries_front bytes n (o + 8) (o + u16_at bytes (o + 2)) es h stands.entries);
    }

dacl_front : (bytes : List ℕ) (n o : ℕ) (dacl : Dacl) → dacl_end bytes o dacl ≤ n → DaclStands bytes o dacl → DaclStands (take n bytes) o dacl
dacl_front bytes n o Absent h stands = stands
dacl_front bytes n o Null h stands = stands
dacl_front bytes n o (Entries es) h stands = (stands.0, list_front bytes n o es h stands.1)

either : (P Q W : Type 0) (b : Bool) → (P → Q) → MatchBool b P W → MatchBool b Q W
either P Q W true f p = f p
either P Q W false f w = w

-- the front of the bytes, up to the end of the last part or further, holds the same descriptor
pub front_holds : (bytes : List ℕ) (d : DescriptorValue) (n : ℕ) → 20 ≤ n → descriptor_end bytes d ≤ n → Holds bytes d → Holds (take n bytes) d
front_holds bytes d n least h holds =
    let front : List ℕ = take n bytes in
    let owner_end : trustee_end (u32_at bytes 4) d.owner ≤ n = omega arith in
    let group_end : trustee_end (u32_at bytes 8) d.group ≤ n = omega arith in
    let list_end : dacl_end bytes (u32_at bytes 16) d.dacl ≤ n = omega arith in
    let control : u16_at front 2 ≡ u16_at bytes 2 = u16_front bytes n 2 (omega arith) in
    let present : IsPresent bytes d → IsPresent front d = λ p. record {
      dacl = rw (u32_front bytes n 16 (omega arith)) (dacl_front bytes n (u32_at bytes 16) d.dacl list_end p.dacl);
      protected = rw control p.protected;
      auto_req = rw control p.auto_req;
      auto_inherited = rw control p.auto_inherited;
    } in
    record {
      header = omega (arith, holds.header, length-take n bytes);
      revision = byte bytes n 0 (omega arith) ∙ holds.revision;
      self_relative = rw control holds.self_relative;
      no_sacl = rw (control, u32_front bytes n 12 (omega arith)) holds.no_sacl;
      owner = rw (u32_front bytes n 4 (omega arith)) (trustee_front bytes n (u32_at bytes 4) d.owner owner_end holds.owner);
      group = rw (u32_front bytes n 8 (omega arith)) (trustee_front bytes n (u32_at bytes 8) d.group group_end holds.group);
      dacl = rw control (either (IsPresent bytes d) (IsPresent front d) (IsWithout d) (is_set 0x0004 (u16_at bytes 2)) present holds.dacl);
    }

least_end : (bytes : List ℕ) (o : ℕ) (t : Option SidValue) → TrusteeStands bytes o t → 20 ≤ trustee_end o t
least_end bytes o None stands = omega arith
least_end bytes o (Some s) stands = omega (arith, stands.0)

-- and is read as it
pub front_is_read : (bytes : List ℕ) (d : DescriptorValue) (n : ℕ) → ((i : ℕ) → slice_index bytes i < 256) → IsDescriptor d → descriptor_read bytes ≡ Ok d → descriptor_end bytes d ≤ n → descriptor_read (take n bytes) ≡ Ok d
front_is_read bytes d n small is read h =
    let holds : Holds bytes d = readings_are_held bytes d small read in
    let least : 20 ≤ trustee_end (u32_at bytes 4) d.owner = least_end bytes (u32_at bytes 4) d.owner holds.owner in
    held_is_read (take n bytes) d is (front_holds bytes d n (omega arith) h holds)
