-- When a parse allocates: for the entries of a list, once all that precedes them has passed its tests.
use Rattle.std.specs.Prelude.{◌≡◌, ℕ, ◌+◌, ◌<◌, ◌≤◌, true, List, Ok, IsOk}
use Rattle.sd_sid.specs.SidBytes.{u32_at}
use Rattle.sd_wire.specs.Reading.{u16_at, is_set, trustee_read, control_read}
use Rattle.sd_wire.specs.Standing.{ListBegins}

-- a list begins at the offset, counts an entry, and has room for the 16 bytes of one after its header
pub record HasEntries (bytes : List ℕ) (o : ℕ) : Type 0 where
  pub begins : ListBegins bytes o
  pub counted : 0 < u16_at bytes (o + 4)
  pub room : 8 + 16 ≤ u16_at bytes (o + 2)

-- the header, the owner and the group have no fault, and the DACL is a list that has entries
pub record TakesMemory (bytes : List ℕ) : Type 0 where
  pub control : ℕ
  pub header : control_read bytes ≡ Ok control
  pub owner : IsOk (trustee_read bytes (u32_at bytes 4))
  pub group : IsOk (trustee_read bytes (u32_at bytes 8))
  pub present : is_set 0x0004 control ≡ true
  pub behind : 20 ≤ u32_at bytes 16
  pub list : HasEntries bytes (u32_at bytes 16)
