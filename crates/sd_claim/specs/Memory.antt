-- When a parse of a claim allocates: for the name, once it is found, and for the values.
use Rattle.std.specs.Prelude.{◌≡◌, ℕ, List, Some}
use Rattle.sd_sid.specs.SidBytes.{u32_at}
use Rattle.sd_claim.specs.Reading.{header_read, part_len, room_of}
use Rattle.sd_claim.specs.declared.value_type.Layout.TheVariants.{TerminatedText}
use Rattle.sd_claim.specs.declared.value_type.ValueType.{ValueType}

-- the name is in the data, and takes so many bytes
pub record HasName (bytes : List ℕ) : Type 0 where
  pub len : ℕ
  pub found : part_len TerminatedText bytes (u32_at bytes 0) (room_of bytes) ≡ Some len

-- the header has no fault, and the name is in the data
pub record TakesMemory (bytes : List ℕ) : Type 0 where
  pub value_type : ValueType
  pub header : header_read bytes ≡ Some value_type
  pub name : HasName bytes
