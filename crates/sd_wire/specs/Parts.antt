-- A descriptor in parts, before its entries are parsed: their positions, and what parsing them would give.
use Rattle.std.specs.Prelude.{◌≡◌, ℕ, ◌+◌, ◌≤◌, List, length, Result, Ok}
use Rattle.sd_acl.specs.Descriptor.{DescriptorValue}
use Rattle.sd_acl.specs.Dacl.{Dacl}
use Rattle.sd_acl.specs.declared.descriptor.DaclOf.{DaclOf}
use Rattle.sd_acl.specs.declared.descriptor.DaclOf.TheVariants as dacls
use Rattle.sd_wire.specs.declared.fault.WireFault.{WireFault}
use Rattle.sd_wire.specs.declared.parts.Parts.{Parts}
use Rattle.sd_wire.specs.declared.parts.EntryPlaces.{EntryPlaces}
use Rattle.sd_wire.specs.Reading.{◌>>=◌, descriptor_read, entries_read, list_read, u16_at}
use Rattle.sd_wire.specs.Standing.{ListBegins}

-- where a DACL is
abbrev pub DaclPlace : Type 0
DaclPlace = DaclOf EntryPlaces

-- the DACL, once its entries are parsed
abbrev pub dacl_at : List ℕ → DaclPlace → Result Dacl WireFault
dacl_at bytes dacls.Absent = Ok dacls.Absent
dacl_at bytes dacls.Null = Ok dacls.Null
dacl_at bytes (dacls.List p) = entries_read bytes p.place p.end p.count >>= λ es. Ok (dacls.List es)

-- a list begins at the offset, and its entries are there
pub record EntriesBegin (bytes : List ℕ) (o : ℕ) (found : EntryPlaces) : Type 0 where
  pub begins : ListBegins bytes o
  pub read : list_read bytes o ≡ entries_read bytes found.place found.end found.count
  pub place : found.place ≡ o + 8
  pub end : found.end ≡ o + u16_at bytes (o + 2)
  pub count : found.count ≡ u16_at bytes (o + 4)

-- the entries are within the bytes
abbrev pub AreWithin : List ℕ → DaclPlace → Type 0
AreWithin bytes dacls.Absent = Unit {0}
AreWithin bytes dacls.Null = Unit {0}
AreWithin bytes (dacls.List p) = (p.place ≤ p.end) × (p.end ≤ length bytes)

-- the descriptor with another DACL
abbrev pub with_dacl : DescriptorValue → Dacl → DescriptorValue
with_dacl d dacl = record {
  owner = d.owner;
  group = d.group;
  dacl = dacl;
  protected = d.protected;
  auto_req = d.auto_req;
  auto_inherited = d.auto_inherited;
}

-- the bytes parse as the descriptor with this owner and the DACL at its position; the first fault, if there is one, is
-- an entry's
pub record ArePartsOf (bytes : List ℕ) (parts : Parts) : Type 0 where
  pub whole : DescriptorValue
  pub owner : whole.owner ≡ parts.owner
  pub read : descriptor_read bytes ≡ (dacl_at bytes parts.dacl >>= λ dacl. Ok (with_dacl whole dacl))
  pub within : AreWithin bytes parts.dacl
