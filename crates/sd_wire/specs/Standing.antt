-- What it means that bytes hold a descriptor: at each offset that the header, a list or an entry gives is the part
-- itself, as it would be written ([MS-DTYP] 2.4.6, with 2.4.5 for the list, 2.4.4 for its entries, 2.4.2.2 for the
-- SIDs).
use Rattle.std.specs.Prelude.{◌≡◌, ℕ, ◌+◌, ◌%◌, ◌^◌, ◌<◌, ◌≤◌, ◌⊎◌, true, false, MatchBool, List, [], ◌∷◌, length, take}
use Rattle.std.specs.Prelude.{drop, slice_index, bit_and, Option, Some, None}
use Rattle.sd_sid.specs.Sid.{SidValue}
use Rattle.sd_sid.specs.SidBytes.{u32_at, bytes_of_sid}
use Rattle.sd_acl.specs.Ace.{all_named, ace_size}
use Rattle.sd_acl.specs.Descriptor.{DescriptorValue}
use Rattle.sd_acl.specs.declared.ace.Ace.{Ace}
use Rattle.sd_acl.specs.Dacl.{Dacl}
use Rattle.sd_acl.specs.declared.descriptor.DaclOf.TheVariants.{Absent, Null, List as Entries}
use Rattle.sd_wire.specs.Reading.{u16_at, is_set}
use Rattle.sd_wire.specs.Writing.{entry_parts}

-- the part is in the bytes from the offset on
abbrev pub Stands : List ℕ → ℕ → List ℕ → Type 0
Stands bytes o part = take (length part) (drop o bytes) ≡ part

-- the owner or the group is at its offset, after the header; with offset 0 there is none
abbrev pub TrusteeStands : List ℕ → ℕ → Option SidValue → Type 0
TrusteeStands bytes o None = o ≡ 0
TrusteeStands bytes o (Some s) = (20 ≤ o) × Stands bytes o (bytes_of_sid s)

-- the entry is at the offset with this AceSize, in a list that ends at end. Flags without a name mean nothing, nor do
-- the bytes after the SID
pub record EntryStands (bytes : List ℕ) (o end size : ℕ) (e : Ace) : Type 0 where
  pub flags : ℕ
  pub known : bit_and flags all_named ≡ e.flags.0
  pub parts : Stands bytes o (entry_parts e.kind flags size e.mask e.sid)
  pub aligned : size % 4 ≡ 0
  pub room : ace_size e ≤ size
  pub within : o + size ≤ end
  pub short : size < 2 ^ 16

-- the entries are from the offset on, each where the AceSize of the one before it ends
abbrev pub EntriesStand : List ℕ → ℕ → ℕ → List Ace → Type 0
EntriesStand bytes o end [] = Unit {0}
EntriesStand bytes o end (e ∷ es) = (size : ℕ) × EntryStands bytes o end size e × EntriesStand bytes (o + size) end es

-- a list begins at the offset: its revision is accepted, and its AclSize is within the bytes
pub record ListBegins (bytes : List ℕ) (o : ℕ) : Type 0 where
  pub revision : (slice_index bytes o ≡ 2) ⊎ (slice_index bytes o ≡ 4)
  pub header : 8 ≤ u16_at bytes (o + 2)
  pub within : o + u16_at bytes (o + 2) ≤ length bytes

-- the list is at the offset: it begins there, and its entries are as many as AceCount says, within AclSize
pub record ListStands (bytes : List ℕ) (o : ℕ) (es : List Ace) : Type 0 where
  pub begins : ListBegins bytes o
  pub count : u16_at bytes (o + 4) ≡ length es
  pub entries : EntriesStand bytes (o + 8) (o + u16_at bytes (o + 2)) es

-- a DACL that is present is at its offset, after the header; with offset 0 it is Null
abbrev pub DaclStands : List ℕ → ℕ → Dacl → Type 0
DaclStands bytes o Absent = ⊥
DaclStands bytes o Null = o ≡ 0
DaclStands bytes o (Entries es) = (20 ≤ o) × ListStands bytes o es

-- if DP is set: the DACL, with PD, DC and DI
pub record IsPresent (bytes : List ℕ) (d : DescriptorValue) : Type 0 where
  pub dacl : DaclStands bytes (u32_at bytes 16) d.dacl
  pub protected : d.protected ≡ is_set 0x1000 (u16_at bytes 2)
  pub auto_req : d.auto_req ≡ is_set 0x0100 (u16_at bytes 2)
  pub auto_inherited : d.auto_inherited ≡ is_set 0x0400 (u16_at bytes 2)

-- if DP is clear: no DACL, and no flag
pub record IsWithout (d : DescriptorValue) : Type 0 where
  pub dacl : d.dacl ≡ Absent
  pub protected : d.protected ≡ false
  pub auto_req : d.auto_req ≡ false
  pub auto_inherited : d.auto_inherited ≡ false

-- the bytes hold the descriptor: revision 1, SR set, no SACL, and each part where the header says
pub record Holds (bytes : List ℕ) (d : DescriptorValue) : Type 0 where
  pub header : 20 ≤ length bytes
  pub revision : slice_index bytes 0 ≡ 1
  pub self_relative : is_set 0x8000 (u16_at bytes 2) ≡ true
  pub no_sacl : is_set 0x0010 (u16_at bytes 2) ≡ true → u32_at bytes 12 ≡ 0
  pub owner : TrusteeStands bytes (u32_at bytes 4) d.owner
  pub group : TrusteeStands bytes (u32_at bytes 8) d.group
  pub dacl : MatchBool (is_set 0x0004 (u16_at bytes 2)) (IsPresent bytes d) (IsWithout d)
