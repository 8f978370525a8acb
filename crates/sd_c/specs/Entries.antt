-- What the calls answer that return the parts of a kept descriptor.
use Rattle.std.specs.Prelude.{◌≡◌, ◌⊎◌, ℕ, Bool, List, [], length, bit_or, Option, None, Some, IsSome, Ok, Err}
use Rattle.std.specs.Prelude.{option_and_then, slice_get, if◌then◌else◌}
use Rattle.std.specs.Arc.{arc_value}
use Rattle.sd_sid.specs.Sid.{SidValue}
use Rattle.sd_sid.specs.SidBytes.{bytes_of_sid}
use Rattle.sd_acl.specs.Descriptor.{DescriptorValue, descriptor_of}
use Rattle.sd_check.specs.Check.{subject}
use Rattle.sd_acl.specs.declared.ace.Ace.{Ace}
use Rattle.sd_acl.specs.declared.ace.AceKind.{AceKind}
use Rattle.sd_acl.specs.declared.ace.AceKind.TheVariants.{Allow, Deny}
use Rattle.sd_acl.specs.Dacl.{Dacl}
use Rattle.sd_acl.specs.declared.descriptor.DaclOf.TheVariants as dacls
use Rattle.sd_c.specs.declared.call_answer.Written.{Written}
use Rattle.sd_c.specs.declared.entries.DaclAnswer.{DaclAnswer}
use Rattle.sd_c.specs.declared.entries.EntryAnswer.{EntryAnswer}
use Rattle.sd_c.specs.declared.entries.NoPart.{NoPart}
use Rattle.sd_c.specs.declared.entries.NoPart.TheVariants.{Handle as NoHandle, Absent, Memory}
use Rattle.sd_c.specs.declared.entries.SidPart.{SidPart}
use Rattle.sd_c.specs.declared.entries.SidPart.TheVariants.{Owner, Group, Subject}
use Rattle.sd_c.specs.declared.handle.Handle.{Handle}
use Rattle.sd_c.specs.declared.handle.kept.Kept.{Kept}
use Rattle.sd_c.specs.declared.handle.kept.Kept.TheVariants as kinds
use Rattle.sd_c.specs.declared.stop.NotRead.TheVariants.{DescriptorHandle}
use Rattle.sd_c.specs.Kept.{descriptor_in}
use Rattle.sd_c.specs.Written.{Writes, not_written}

-- ---- the parts

abbrev pub entry_at : ℕ → Dacl → Option Ace
entry_at index (dacls.List entries) = slice_get entries index
entry_at index _ = None

abbrev pub entry_in : ℕ → DescriptorValue → Option Ace
entry_in index d = entry_at index d.dacl

-- a part that is a SID: of an entry the one by which it applies, which of OWNER RIGHTS is the owner
abbrev pub sid_in : SidPart → DescriptorValue → Option SidValue
sid_in Owner d = d.owner
sid_in Group d = d.group
sid_in (Subject index) d = option_and_then (λ e. subject d.owner e.sid) (entry_in index d)

-- ---- why there is none

-- the handle keeps no descriptor, the descriptor has no such part, or out of memory for one that it has
abbrev pub LacksPart : {A : Type 0} → (DescriptorValue → Option A) → Kept → NoPart → Type 0
LacksPart part kept NoHandle = descriptor_in kept ≡ Err DescriptorHandle
LacksPart part kept Absent = (d : DescriptorValue) × (descriptor_in kept ≡ Ok d) × (part d ≡ None)
LacksPart part kept Memory = (d : DescriptorValue) × (descriptor_in kept ≡ Ok d) × IsSome (part d)

abbrev pub no_part : NoPart → Written
no_part NoHandle = not_written 11 0 0
no_part Absent = not_written 18 0 0
no_part Memory = not_written 1 0 0

-- ---- a SID

abbrev pub IsSidPart : SidPart → Kept → List ℕ → Type 0
IsSidPart part kept bytes =
    (d : DescriptorValue) × (sid : SidValue) × (descriptor_in kept ≡ Ok d) × (sid_in part d ≡ Some sid)
    × (bytes ≡ bytes_of_sid sid)

-- its bytes are written, or the buffer is too small for them; or nothing is, for a reason that holds
abbrev pub WritesSidPart : SidPart → Handle → List ℕ → List ℕ → Written → Type 0
WritesSidPart part handle old new answer =
    ((bytes : List ℕ) × (handle.is_there ≡ 1) × IsSidPart part handle.seal.kept bytes × Writes bytes old new answer)
    ⊎ ((why : NoPart) × (handle.is_there ≡ 1) × LacksPart (sid_in part) handle.seal.kept why × (new ≡ old)
    × (answer ≡ no_part why))
    ⊎ ((handle.is_there ≡ 0) × (new ≡ old) × (answer ≡ no_part NoHandle))

-- ---- an entry

abbrev pub entry_kind : AceKind → ℕ
entry_kind Allow = 1
entry_kind Deny = 2

abbrev pub IsEntryPart : ℕ → Kept → List ℕ → Ace → Type 0
IsEntryPart index kept bytes entry =
    (d : DescriptorValue) × (descriptor_in kept ≡ Ok d) × (entry_in index d ≡ Some entry)
    × (bytes ≡ bytes_of_sid entry.sid)

abbrev pub no_entry : NoPart → EntryAnswer
no_entry why = record { written = no_part why; kind = 0; flags = 0; mask = 0 }

-- the entry is returned, and its SID written unless the buffer is too small; or nothing is, for a reason that holds
abbrev pub WritesEntry : ℕ → Handle → List ℕ → List ℕ → EntryAnswer → Type 0
WritesEntry index handle old new answer =
    ((bytes : List ℕ) × (entry : Ace) × (handle.is_there ≡ 1) × IsEntryPart index handle.seal.kept bytes entry
    × Writes bytes old new answer.written × (answer.kind ≡ entry_kind entry.kind) × (answer.flags ≡ entry.flags.0)
    × (answer.mask ≡ entry.mask))
    ⊎ ((why : NoPart) × (handle.is_there ≡ 1) × LacksPart (entry_in index) handle.seal.kept why × (new ≡ old)
    × (answer ≡ no_entry why))
    ⊎ ((handle.is_there ≡ 0) × (new ≡ old) × (answer ≡ no_entry NoHandle))

-- ---- the DACL

abbrev pub where_set : Bool → ℕ → ℕ
where_set test bit = if test then bit else 0

-- the control bits PD, DC and DI (2.4.6)
abbrev pub control_of : DescriptorValue → ℕ
control_of d =
    bit_or (bit_or (where_set d.protected 0x1000) (where_set d.auto_req 0x0100)) (where_set d.auto_inherited 0x0400)

abbrev pub dacl_kind : Dacl → ℕ
dacl_kind dacls.Absent = 1
dacl_kind dacls.Null = 2
dacl_kind (dacls.List entries) = 3

abbrev pub entry_count : Dacl → ℕ
entry_count (dacls.List entries) = length entries
entry_count _ = 0

abbrev pub dacl_answer : DescriptorValue → DaclAnswer
dacl_answer d = record { status = 0; kind = dacl_kind d.dacl; control = control_of d; entries = entry_count d.dacl }

abbrev pub no_dacl : DaclAnswer
no_dacl = record { status = 11; kind = 0; control = 0; entries = 0 }

abbrev pub dacl_in : Kept → DaclAnswer
dacl_in (kinds.Descriptor d) = dacl_answer (descriptor_of (arc_value d))
dacl_in _ = no_dacl

abbrev pub ReturnsDacl : Handle → DaclAnswer → Type 0
ReturnsDacl handle answer =
    ((handle.is_there ≡ 1) × (answer ≡ dacl_in handle.seal.kept)) ⊎ ((handle.is_there ≡ 0) × (answer ≡ no_dacl))
