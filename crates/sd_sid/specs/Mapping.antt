-- Generic mappings ([MS-DTYP] 2.4.3: the generic rights, and what an object maps them to).
use Rattle.std.specs.Prelude.{ℕ, ◌<◌, ◌^◌, Bool, ◌&&◌, ◌||◌, nat_lt, Result, Ok, Err, if◌then◌else◌}
use Rattle.sd_sid.specs.Mask.{holds, mask_of}
use Rattle.sd_sid.specs.declared.mapping.BadMapping.{BadMapping}

-- what each of the four generic rights stands for
pub record MappingValue : Type 0 where
  pub read : ℕ
  pub write : ℕ
  pub execute : ℕ
  pub all : ℕ

-- each mask is within the object's own rights and the standard ones: the bits below 21
pub record IsMapping (g : MappingValue) : Type 0 where
  pub read : g.read < 2 ^ 21
  pub write : g.write < 2 ^ 21
  pub execute : g.execute < 2 ^ 21
  pub all : g.all < 2 ^ 21

-- the bit is one of the mapped mask: it isn't generic and the mask has it, or a generic right that the mask has is
-- mapped to it
abbrev pub is_mapped : MappingValue → ℕ → ℕ → Bool
is_mapped g m b =
    (holds m b && nat_lt b 28)
    || (holds m 31 && holds g.read b)
    || (holds m 30 && holds g.write b)
    || (holds m 29 && holds g.execute b)
    || (holds m 28 && holds g.all b)

-- the mask without its generic bits, joined with the mapping's mask for each of them
abbrev pub mapped : MappingValue → ℕ → ℕ
mapped g m = mask_of (is_mapped g m) 32

-- the mapping of four masks
abbrev pub mapping_of : ℕ → ℕ → ℕ → ℕ → Result MappingValue BadMapping
mapping_of read write execute all =
    if (nat_lt read (2 ^ 21) && nat_lt write (2 ^ 21) && nat_lt execute (2 ^ 21) && nat_lt all (2 ^ 21))
    then Ok (record { read = read; write = write; execute = execute; all = all })
    else Err (record {})

-- the mapping of files
abbrev pub file_mapping : MappingValue
file_mapping = record { read = 0x00120089; write = 0x00120116; execute = 0x001200A0; all = 0x001F01FF }
