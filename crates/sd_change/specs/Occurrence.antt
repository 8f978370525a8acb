-- Where a SID is in a descriptor: owner, group, and the SIDs of entries ([MS-DTYP] 2.4.6).
use Rattle.std.specs.Prelude.{Bool, false, ◌||◌, Option}
use Rattle.std.specs.List.{list_any}
use Rattle.std.specs.Option.{option_map_or}
use Rattle.sd_sid.specs.Sid.{SidValue, same_sid}
use Rattle.sd_acl.specs.declared.descriptor.DaclOf.TheVariants.{Absent, Null, List as Entries}
use Rattle.sd_whole.specs.declared.ace.WholeAce.{WholeAce}
use Rattle.sd_whole.specs.declared.ace.WholeAce.TheVariants.{Plain, Typed, Opaque}
use Rattle.sd_whole.specs.declared.descriptor.WholeDescriptor.{WholeDescriptor}
use Rattle.sd_whole.specs.Reading.{WholeAcl}

-- the entry is for the SID; one that is kept as bytes is for none
abbrev pub is_for : SidValue → WholeAce → Bool
is_for sid (Plain e) = same_sid sid e.sid
is_for sid (Typed e) = same_sid sid e.sid
is_for sid (Opaque e) = false

-- an entry of the list passes the test
abbrev pub acl_has : (WholeAce → Bool) → WholeAcl → Bool
acl_has test Absent = false
acl_has test Null = false
acl_has test (Entries list) = list_any test list.entries

-- the SID is that owner or that group
abbrev pub is_trustee : SidValue → Option SidValue → Bool
is_trustee sid trustee = option_map_or (same_sid sid) trustee false

-- an entry of the SACL or the DACL is for the SID
abbrev pub has_entry_for : SidValue → WholeDescriptor → Bool
has_entry_for sid d = acl_has (is_for sid) d.sacl || acl_has (is_for sid) d.dacl

-- the SID is the owner, the group, or that of an entry
abbrev pub occurs : SidValue → WholeDescriptor → Bool
occurs sid d = is_trustee sid d.owner || is_trustee sid d.group || has_entry_for sid d
