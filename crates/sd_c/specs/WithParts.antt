-- What the call answers that puts parts of two whole descriptors together ([MS-DTYP] 2.4.6).
use Rattle.std.specs.Prelude.{◌≡◌, ◌⊎◌, ℕ, ◌+◌, cond, List, bit_and, bit_or, Ok}
use Rattle.std.specs.Int.{w16, bit_not}
use Rattle.sd_wire.specs.Reading.{is_set}
use Rattle.sd_whole.specs.Reading.{whole_read}
use Rattle.sd_whole.specs.Writing.{whole_wire_of}
use Rattle.sd_whole.specs.declared.descriptor.WholeDescriptor.{WholeDescriptor}
use Rattle.sd_c.specs.declared.refusal.Refusal.{Refusal}
use Rattle.sd_c.specs.Whole.{RefusesWhole}

-- parts are 1 the owner, 2 the group, 4 the DACL, 8 the SACL

-- the control bits of parts: OD, GD; of the DACL DD, DC, DI and PD; of the SACL SD, SC, SI and PS
abbrev pub bits_of_parts : ℕ → ℕ
bits_of_parts parts = cond (is_set 1 parts) 0x0001 0 + cond (is_set 2 parts) 0x0002 0
    + cond (is_set 4 parts) 0x1508 0 + cond (is_set 8 parts) 0x2a20 0

-- the descriptor with these parts of another, and the control bits that are theirs
abbrev pub with_parts : ℕ → WholeDescriptor → WholeDescriptor → WholeDescriptor
with_parts parts w other =
    record {
      resource_manager = w.resource_manager;
      control = bit_or (bit_and w.control (bit_not w16 (bits_of_parts parts)))
          (bit_and other.control (bits_of_parts parts));
      owner = cond (is_set 1 parts) other.owner w.owner;
      group = cond (is_set 2 parts) other.group w.group;
      sacl = cond (is_set 8 parts) other.sacl w.sacl;
      dacl = cond (is_set 4 parts) other.dacl w.dacl;
    }

abbrev pub IsWithParts : List ℕ → List ℕ → ℕ → List ℕ → Type 0
IsWithParts bytes other parts form =
    (w : WholeDescriptor) × (o : WholeDescriptor) × (whole_read bytes ≡ Ok w) × (whole_read other ≡ Ok o)
    × (form ≡ whole_wire_of (with_parts parts w o))

-- the first bytes hold no descriptor, or the others hold none
abbrev pub RefusesEither : List ℕ → List ℕ → Refusal → Type 0
RefusesEither bytes other why = RefusesWhole bytes why ⊎ ((w : WholeDescriptor) × (whole_read bytes ≡ Ok w)
    × RefusesWhole other why)
