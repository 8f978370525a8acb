-- The first entry of a DACL that is neither an allow nor a deny ([MS-DTYP] 2.4.4.1): the one whose fault is EntryKind.
use Rattle.std.specs.Prelude.{ℕ, zero, suc, ◌+◌, nat_lt, ◌||◌, List, length, slice_index, Option, Some, None}
use Rattle.std.specs.Prelude.{if◌then◌else◌}
use Rattle.sd_sid.specs.SidBytes.{u32_at}
use Rattle.sd_wire.specs.Reading.{u16_at, is_outside}

-- the number and the AceType of the first that is neither an allow nor a deny among so many entries from an offset on,
-- of which the first has this number
abbrev pub odd_from : List ℕ → ℕ → ℕ → ℕ → Option (ℕ × ℕ)
odd_from bytes o zero number = None
odd_from bytes o (suc n) number =
    if nat_lt (length bytes) (o + 4) then None
    else if nat_lt 1 (slice_index bytes o) then Some (number, slice_index bytes o)
    else odd_from bytes (o + u16_at bytes (o + 2)) n (number + 1)

-- the number and the AceType of the DACL's first entry that is neither an allow nor a deny
abbrev pub odd_entry : List ℕ → Option (ℕ × ℕ)
odd_entry bytes =
    if nat_lt (length bytes) 20 || is_outside bytes (u32_at bytes 16) then None
    else odd_from bytes (u32_at bytes 16 + 8) (u16_at bytes (u32_at bytes 16 + 4)) 1
