-- Whole descriptors as text ([MS-DTYP] 2.5.1.1, sddl).
use Rattle.std.specs.Prelude.{ℕ, Bool, true, false, ◌&&◌, List, ◌++◌, is_none, Result, Ok, codes}
use Rattle.sd_acl.specs.declared.descriptor.DaclOf.TheVariants.{Absent, Null, List as Entries}
use Rattle.sd_text.specs.Canon.{section_canon}
use Rattle.sd_text.specs.declared.right_names.RightNames.{RightNames}
use Rattle.sd_whole.specs.Reading.{WholeAcl}
use Rattle.sd_whole.specs.declared.descriptor.WholeDescriptor.{WholeDescriptor}
use Rattle.sd_whole_text.specs.Acl.{acl_text}
use Rattle.sd_whole_text.specs.NoText.{whole_test, ◌>>◌}
use Rattle.sd_whole_text.specs.declared.no_text.AclKind.TheVariants.{Dacl, Sacl}
use Rattle.sd_whole_text.specs.declared.no_text.NoText.{NoText}

-- there is no SACL, or no DACL
abbrev pub is_absent : WholeAcl → Bool
is_absent Absent = true
is_absent Null = false
is_absent (Entries list) = false

-- owner, group, DACL, SACL
unfoldable pub sections_text : RightNames → WholeDescriptor → List ℕ
sections_text names d = section_canon (codes "O:") d.owner ++ section_canon (codes "G:") d.group
    ++ acl_text names Dacl d.control d.dacl ++ acl_text names Sacl d.control d.sacl

-- the text of a descriptor with these names of rights, or the first of its parts that has no text
abbrev pub whole_text : RightNames → WholeDescriptor → Result (List ℕ) NoText
whole_text names d = whole_test d >> Ok (sections_text names d)

-- nothing is printed
abbrev pub is_empty : WholeDescriptor → Bool
is_empty d = is_none d.owner && is_none d.group && is_absent d.dacl && is_absent d.sacl
