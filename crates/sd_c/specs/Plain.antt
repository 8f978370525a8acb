-- What the calls answer that leave parts of a whole descriptor out: its text, and its plain part ([MS-DTYP] 2.4.6).
use Rattle.std.specs.Prelude.{◌≡◌, ◌⊎◌, ℕ, ◌+◌, ◌==◌, cond, List, bit_and, Ok, Err, if◌then◌else◌}
use Rattle.std.specs.Int.{w16, bit_not}
use Rattle.sd_acl.specs.Descriptor.{DescriptorValue}
use Rattle.sd_text.specs.declared.right_names.RightNames.TheVariants.{All}
use Rattle.sd_wire.specs.Reading.{is_set}
use Rattle.sd_wire.specs.Writing.{wire_of}
use Rattle.sd_whole.specs.Plain.{has_sacl, plain_part}
use Rattle.sd_whole.specs.Reading.{whole_read}
use Rattle.sd_whole.specs.Writing.{is_without}
use Rattle.sd_whole.specs.declared.descriptor.WholeDescriptor.{WholeDescriptor}
use Rattle.sd_whole_text.specs.Descriptor.{whole_text}
use Rattle.sd_whole_text.specs.NoText.{bits_without_keyword}
use Rattle.sd_whole_text.specs.declared.no_text.AclKind.{AclKind}
use Rattle.sd_whole_text.specs.declared.no_text.AclKind.TheVariants.{Dacl, Sacl}
use Rattle.sd_whole_text.specs.declared.no_text.NoText.{NoText as Reason}
use Rattle.sd_whole_text.specs.declared.no_text.NoText.TheVariants as reasons
use Rattle.sd_c.specs.declared.plain.Trimmed.{Trimmed}
use Rattle.sd_c.specs.declared.refusal.Refusal.{Refusal}
use Rattle.sd_c.specs.declared.refusal.Refusal.TheVariants.{Memory, NoText, NotPlain}
use Rattle.sd_c.specs.Whole.{RefusesWhole}
use Rattle.sd_c.specs.Written.{Writes, refused}

-- ---- the answers

-- the number of a list: 1 the DACL, 2 the SACL
abbrev pub acl_number : AclKind → ℕ
acl_number Dacl = 1
acl_number Sacl = 2

-- the list of which a reason speaks; 0 of the header
abbrev pub list_of_reason : Reason → ℕ
list_of_reason reasons.ResourceManager = 0
list_of_reason reasons.Control = 0
list_of_reason (reasons.Keywords acl) = acl_number acl
list_of_reason (reasons.Opaque acl entry) = acl_number acl
list_of_reason (reasons.Kind acl entry) = acl_number acl
list_of_reason (reasons.Data acl entry) = acl_number acl

-- the list of which a refusal speaks, else 0
abbrev pub list_of : Refusal → ℕ
list_of (NoText why) = list_of_reason why
list_of (NotPlain odd) = 1
list_of _ = 0

abbrev pub not_trimmed : Refusal → Trimmed
not_trimmed why = record { written = refused why; left_out = 0; list = list_of why }

-- the bytes of a part of the descriptor are written, and what else it has returned
abbrev pub Trims : List ℕ → ℕ → List ℕ → List ℕ → Trimmed → Type 0
Trims bytes left_out old new answer =
    Writes bytes old new answer.written × (answer.left_out ≡ left_out) × (answer.list ≡ 0)

-- ---- what is left out: 1 a SACL, 2 the resource manager's byte, 4 control bits

abbrev pub sacl_left_out : WholeDescriptor → ℕ
sacl_left_out w = cond (has_sacl w) 1 0

abbrev pub manager_left_out : WholeDescriptor → ℕ
manager_left_out w = cond (w.resource_manager == 0) 0 2

-- some of these control bits are set
abbrev pub bits_left_out : ℕ → WholeDescriptor → ℕ
bits_left_out bits w = cond (is_set bits w.control) 4 0

-- ---- the text

-- the descriptor without the control bits and the byte that no text says, unless nothing is left out
abbrev pub printed_as : ℕ → WholeDescriptor → WholeDescriptor
printed_as leaves w =
    if leaves == 0 then w
    else record w { control = bit_and w.control (bit_not w16 bits_without_keyword); resource_manager = 0 }

abbrev pub left_out_of_text : ℕ → WholeDescriptor → ℕ
left_out_of_text leaves w =
    if leaves == 0 then 0 else manager_left_out w + bits_left_out bits_without_keyword w

-- a part of the descriptor has no text
abbrev pub RefusesPrinting : List ℕ → ℕ → Refusal → Type 0
RefusesPrinting bytes leaves (NoText why) =
    (w : WholeDescriptor) × (whole_read bytes ≡ Ok w) × (whole_text All (printed_as leaves w) ≡ Err why)
RefusesPrinting bytes leaves why = RefusesWhole bytes why

-- the text is written, or the call refuses for a reason that holds, and writes nothing
abbrev pub Prints : List ℕ → ℕ → List ℕ → List ℕ → Trimmed → Type 0
Prints bytes leaves old new answer =
    ((w : WholeDescriptor) × (text : List ℕ) × (whole_read bytes ≡ Ok w)
    × (whole_text All (printed_as leaves w) ≡ Ok text) × Trims text (left_out_of_text leaves w) old new answer)
    ⊎ ((why : Refusal) × RefusesPrinting bytes leaves why × (new ≡ old) × (answer ≡ not_trimmed why))

-- ---- the plain part

-- the control bits that its plain part doesn't have: all but PD, DC and DI of a DACL
abbrev pub bits_not_plain : WholeDescriptor → ℕ
bits_not_plain w = cond (is_without w.dacl) 0xffff 0xeaff

abbrev pub left_out_of_plain : WholeDescriptor → ℕ
left_out_of_plain w = (sacl_left_out w + manager_left_out w) + bits_left_out (bits_not_plain w) w

-- the descriptor has no plain part: this is the first entry of its DACL that isn't plain; or memory runs out
abbrev pub IsNotPlain : WholeDescriptor → Refusal → Type 0
IsNotPlain w (NotPlain odd) = plain_part w ≡ Err odd
IsNotPlain w Memory = Unit {0}
IsNotPlain w _ = ⊥

-- the bytes hold no descriptor, or one without a plain part
abbrev pub RefusesPlain : List ℕ → Refusal → Type 0
RefusesPlain bytes why =
    RefusesWhole bytes why ⊎ ((w : WholeDescriptor) × (whole_read bytes ≡ Ok w) × IsNotPlain w why)

-- the plain part's form is written, or the call refuses for a reason that holds, and writes nothing
abbrev pub WritesPlain : List ℕ → List ℕ → List ℕ → Trimmed → Type 0
WritesPlain bytes old new answer =
    ((w : WholeDescriptor) × (d : DescriptorValue) × (whole_read bytes ≡ Ok w) × (plain_part w ≡ Ok d)
    × Trims (wire_of d) (left_out_of_plain w) old new answer)
    ⊎ ((why : Refusal) × RefusesPlain bytes why × (new ≡ old) × (answer ≡ not_trimmed why))
