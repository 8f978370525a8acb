-- Entries that depend on who asks: the effective ones with a condition ([MS-DTYP] 2.4.4.17).
use Rattle.std.specs.Prelude.{ℕ, ◌+◌, Bool, true, false, not, ◌&&◌, Option, Some, None, Result, Err}
use Rattle.std.specs.List.{position}
use Rattle.sd_acl.specs.Descriptor.{DescriptorValue}
use Rattle.sd_acl.specs.declared.descriptor.DaclOf.TheVariants.{Absent, Null, List as Entries}
use Rattle.sd_whole.specs.declared.ace.WholeAce.{WholeAce}
use Rattle.sd_whole.specs.declared.ace.WholeAce.TheVariants.{Plain, Typed, Opaque}
use Rattle.sd_whole.specs.declared.kind.WholeKind.{WholeKind}
use Rattle.sd_whole.specs.declared.kind.WholeKind.TheVariants.{CallbackAllow, CallbackDeny, CallbackObjectAllow}
use Rattle.sd_whole.specs.declared.kind.WholeKind.TheVariants.{CallbackObjectDeny}
use Rattle.sd_whole.specs.declared.plain.OddKind.TheVariants.{ConditionalAce}
use Rattle.sd_whole.specs.Reading.{WholeAcl}
use Rattle.sd_whole.specs.Entry.{for_children_alone}
use Rattle.sd_specialize.specs.declared.fault.RefusedKind.TheVariants.{Odd}
use Rattle.sd_specialize.specs.declared.fault.SpecializeFault.{SpecializeFault}
use Rattle.sd_specialize.specs.declared.fault.SpecializeFault.TheVariants.{Refused}

abbrev pub has_condition : WholeKind → Bool
has_condition CallbackAllow = true
has_condition CallbackDeny = true
has_condition CallbackObjectAllow = true
has_condition CallbackObjectDeny = true
has_condition _ = false

-- an effective entry with a condition
abbrev pub is_conditional : WholeAce → Bool
is_conditional (Plain e) = false
is_conditional (Typed e) = has_condition e.kind && not (for_children_alone e.flags.0)
is_conditional (Opaque e) = false

-- the place of the first of them
abbrev pub conditional_place : WholeAcl → Option ℕ
conditional_place Absent = None
conditional_place Null = None
conditional_place (Entries list) = position is_conditional list.entries

-- the entry at the place, counted from 1, is refused
abbrev pub conditional_fault : ℕ → SpecializeFault
conditional_fault place = Refused (record { entry = place + 1; kind = Odd ConditionalAce })

abbrev pub unless_conditional : Option ℕ → Result DescriptorValue SpecializeFault
    → Result DescriptorValue SpecializeFault
unless_conditional None other = other
unless_conditional (Some place) other = Err (conditional_fault place)
