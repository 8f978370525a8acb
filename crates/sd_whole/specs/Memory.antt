-- When a parse allocates: for the entries of a SACL or a DACL, once all that precedes them has passed its tests.
use Rattle.std.specs.Prelude.{◌≡◌, ℕ, ◌+◌, ◌<◌, ◌≤◌, ◌⊎◌, Bool, true, List, length, drop, slice_index, Ok, IsOk}
use Rattle.sd_sid.specs.SidBytes.{u32_at}
use Rattle.sd_wire.specs.Reading.{header_read, is_set, trustee_read, u16_at}
use Rattle.sd_whole.specs.Reading.{revision_read}

-- a list's header at the front of the bytes passes its tests, counts an entry, and has room for the 4 bytes of one's
-- header after it
pub record HasWholeEntries (bytes : List ℕ) : Type 0 where
  pub revision : IsOk (revision_read (slice_index bytes 0))
  pub within : u16_at bytes 2 ≤ length bytes
  pub counted : 0 < u16_at bytes 4
  pub room : 8 + 4 ≤ u16_at bytes 2

-- the SACL or the DACL is there, after the header, and has entries
pub record AclTakesMemory (is_present : Bool) (bytes : List ℕ) (o : ℕ) : Type 0 where
  pub present : is_present ≡ true
  pub behind : 20 ≤ o
  pub list : HasWholeEntries (drop o bytes)

-- the header, the owner and the group have no fault, and the SACL or the DACL is a list that has entries
pub record WholeTakesMemory (bytes : List ℕ) : Type 0 where
  pub control : ℕ
  pub header : header_read bytes ≡ Ok control
  pub owner : IsOk (trustee_read bytes (u32_at bytes 4))
  pub group : IsOk (trustee_read bytes (u32_at bytes 8))
  pub lists : AclTakesMemory (is_set 0x0010 control) bytes (u32_at bytes 12)
      ⊎ AclTakesMemory (is_set 0x0004 control) bytes (u32_at bytes 16)
