-- What a change makes of a descriptor ([MS-DTYP] 2.4.6).
use Rattle.std.specs.Prelude.{◌≡◌, ℕ, Bool, false, not, ◌&&◌, ◌||◌, ◌<◌, List, filter, map, option_map, bit_and, bit_or}
use Rattle.std.specs.Prelude.{if◌then◌else◌}
use Rattle.sd_sid.specs.Sid.{SidValue, same_sid}
use Rattle.sd_acl.specs.declared.descriptor.DaclOf.TheVariants.{Absent, Null, List as Entries}
use Rattle.sd_wire.specs.Reading.{is_set}
use Rattle.sd_whole.specs.declared.ace.WholeAce.{WholeAce}
use Rattle.sd_whole.specs.declared.ace.WholeAce.TheVariants.{Plain, Typed, Opaque}
use Rattle.sd_whole.specs.declared.descriptor.WholeDescriptor.{WholeDescriptor}
use Rattle.sd_whole.specs.Entry.{flags_of, whole_acl_size}
use Rattle.sd_whole.specs.Reading.{WholeAcl}
use Rattle.sd_whole_text.specs.declared.no_text.AclKind.{AclKind}
use Rattle.sd_whole_text.specs.declared.no_text.AclKind.TheVariants.{Dacl, Sacl}
use Rattle.sd_change.specs.declared.change.Change.{Change}
use Rattle.sd_change.specs.declared.change.Change.TheVariants.{Replace, Remove, Protect, Unprotect}
use Rattle.sd_change.specs.declared.change.ChangeError.{ChangeError}
use Rattle.sd_change.specs.declared.change.ChangeError.TheVariants.{TooLarge, Memory}
use Rattle.sd_change.specs.declared.change.Inherited.TheVariants.{Kept, Dropped}
use Rattle.sd_change.specs.Occurrence.{acl_has, has_entry_for, is_for, occurs}

-- ---- an entry

-- the flag of an inherited entry (2.4.4.1, INHERITED_ACE)
abbrev pub is_inherited : WholeAce → Bool
is_inherited e = is_set 0x10 (flags_of e)

-- the entry of a list goes: one for a removed SID, or an inherited one of a DACL that drops these
abbrev pub takes : Change → AclKind → WholeAce → Bool
takes (Replace old new) kind e = false
takes (Remove sid) kind e = is_for sid e
takes (Protect Kept) kind e = false
takes (Protect Dropped) Dacl e = is_inherited e
takes (Protect Dropped) Sacl e = false
takes Unprotect kind e = false

-- the SID in the place of one
abbrev pub sid_after : Change → SidValue → SidValue
sid_after (Replace old new) s = if same_sid old s then new else s
sid_after (Remove sid) s = s
sid_after (Protect inherited) s = s
sid_after Unprotect s = s

-- an inherited entry becomes the object's own
abbrev pub own_flags : ℕ → ℕ
own_flags flags = if is_set 0x10 flags then bit_and flags 0xef else flags

-- the flags of an entry that stays: in a protected DACL it is the object's own
abbrev pub flags_after : Change → AclKind → ℕ → ℕ
flags_after (Replace old new) kind flags = flags
flags_after (Remove sid) kind flags = flags
flags_after (Protect inherited) Dacl flags = own_flags flags
flags_after (Protect inherited) Sacl flags = flags
flags_after Unprotect kind flags = flags

-- an entry that stays: all but its SID and its flags is as it was
abbrev pub entry_after : Change → AclKind → WholeAce → WholeAce
entry_after change kind (Plain e) =
    Plain (record e { flags = record { 0 = flags_after change kind e.flags.0 }; sid = sid_after change e.sid })
entry_after change kind (Typed e) =
    Typed (record e { flags = record { 0 = flags_after change kind e.flags.0 }; sid = sid_after change e.sid })
entry_after change kind (Opaque e) = Opaque (record e { flags = record { 0 = flags_after change kind e.flags.0 } })

-- ---- a list

-- the entries that stay, in their order
abbrev pub entries_after : Change → AclKind → List WholeAce → List WholeAce
entries_after change kind es = map (entry_after change kind) (filter (λ e. not (takes change kind e)) es)

-- a list stays a list, if only an empty one
abbrev pub acl_after : Change → AclKind → WholeAcl → WholeAcl
acl_after change kind Absent = Absent
acl_after change kind Null = Null
acl_after change kind (Entries list) = Entries (record list { entries = entries_after change kind list.entries })

-- ---- a descriptor

-- control bit PD: nothing is inherited
abbrev pub control_after : Change → ℕ → ℕ
control_after (Replace old new) control = control
control_after (Remove sid) control = control
control_after (Protect inherited) control = if is_set 0x1000 control then control else bit_or control 0x1000
control_after Unprotect control = if is_set 0x1000 control then bit_and control 0xefff else control

-- the descriptor after the change
abbrev pub descriptor_after : Change → WholeDescriptor → WholeDescriptor
descriptor_after change d = record d {
  control = control_after change d.control;
  owner = option_map (sid_after change) d.owner;
  group = option_map (sid_after change) d.group;
  sacl = acl_after change Sacl d.sacl;
  dacl = acl_after change Dacl d.dacl;
}

-- the change changes something
abbrev pub concerns : Change → WholeDescriptor → Bool
concerns (Replace old new) d = not (same_sid old new) && occurs old d
concerns (Remove sid) d = has_entry_for sid d
concerns (Protect inherited) d = not (is_set 0x1000 d.control) || acl_has is_inherited d.dacl
concerns Unprotect d = is_set 0x1000 d.control

-- ---- why there is none

-- the entries of the list would take more than 65,535 bytes (2.4.5, AclSize)
abbrev pub IsTooLargeAcl : Change → AclKind → WholeAcl → Type 0
IsTooLargeAcl change kind Absent = ⊥
IsTooLargeAcl change kind Null = ⊥
IsTooLargeAcl change kind (Entries list) = 65535 < whole_acl_size (entries_after change kind list.entries)

-- why a list is none after the change
abbrev pub IsWhyAcl : Change → AclKind → WholeAcl → ChangeError → Type 0
IsWhyAcl change kind acl (TooLarge named) = (named ≡ kind) × IsTooLargeAcl change kind acl
IsWhyAcl change kind acl Memory = Unit {0}

abbrev pub acl_of : AclKind → WholeDescriptor → WholeAcl
acl_of Sacl d = d.sacl
acl_of Dacl d = d.dacl

-- the list that is named is too large after the change; or memory ran out
abbrev pub IsWhy : Change → WholeDescriptor → ChangeError → Type 0
IsWhy change d (TooLarge kind) = IsTooLargeAcl change kind (acl_of kind d)
IsWhy change d Memory = Unit {0}
