-- The sections of a DACL and of a SACL ([MS-DTYP] 2.5.1.1, dacl and sacl).
use Rattle.std.specs.Prelude.{ℕ, Bool, false, Ok, List, if◌then◌else◌}
use Rattle.std.specs.List.{list_any}
use Rattle.sd_acl.specs.declared.descriptor.DaclOf.TheVariants.{Absent, Null, List as Entries}
use Rattle.sd_text.specs.Finding.{Found, find}
use Rattle.sd_text.specs.Grammar.{word, begins}
use Rattle.sd_text.specs.Sddl.{words, no_words}
use Rattle.sd_text.specs.declared.alias.Aliases.{Aliases}
use Rattle.sd_text.specs.declared.descriptor.DaclWords.{DaclWords}
use Rattle.sd_whole.specs.Kind.{has_object_types}
use Rattle.sd_whole.specs.Values.{WholeListValue}
use Rattle.sd_whole.specs.declared.ace.WholeAce.{WholeAce}
use Rattle.sd_whole.specs.declared.ace.WholeAce.TheVariants.{Plain, Typed, Opaque}
use Rattle.sd_whole.specs.declared.list.ListRevision.{ListRevision}
use Rattle.sd_whole.specs.declared.list.ListRevision.TheVariants.{Standard, DirectoryService}
use Rattle.sd_whole_parse.specs.Entry.{entries_found}
use Rattle.sd_whole_parse.specs.Finding.{◌>>=◌, done}
use Rattle.sd_whole_parse.specs.Spaces.{to_entry}
use Rattle.sd_whole_parse.specs.declared.acl.AclPart.{AclPart}

-- an entry with object types
abbrev pub is_object : WholeAce → Bool
is_object (Plain e) = false
is_object (Typed e) = has_object_types e.kind
is_object (Opaque e) = false

-- AclRevision: 4 with an object entry, else 2 (2.4.5)
abbrev pub revision_of : List WholeAce → ListRevision
revision_of es = if list_any is_object es then DirectoryService else Standard

-- the list of these entries
abbrev pub list_of : List WholeAce → WholeListValue
list_of es = record { revision = revision_of es; entries = es }

-- after the keywords a list, unless there is no access control
unfoldable pub acl_behind : Aliases → DaclWords → List ℕ → Found AclPart
acl_behind known found text =
    if found.no_access_control then Ok (record { acl = Null; words = found }, text)
    else (to_entry >>= λ u. entries_found known
    >>= λ es. done (record { acl = Entries (list_of es); words = found })) text

-- the section with this head, if it is there
unfoldable pub acl_section : Aliases → List ℕ → List ℕ → Found AclPart
acl_section known head text =
    if begins text head then (find (word head) >>= λ u. find words >>= λ found. acl_behind known found) text
    else Ok (record { acl = Absent; words = no_words }, text)
