-- A whole descriptor in words, a line for each fact ([MS-DTYP] 2.4.6). All that it has is said: the owner, the group
-- and the resource manager's byte; of each list whether it is there, its revision and its entries; and each control bit
-- with the part of which it speaks.
use Rattle.std.specs.Prelude.{ℕ, zero, suc, ◌+◌, Bool, true, false, not, ◌==◌, ◌&&◌, if◌then◌else◌}
use Rattle.std.specs.Prelude.{List, [], ◌∷◌, ◌++◌, length, slice_get, Option, Some, None}
use Rattle.sd_acl.specs.declared.descriptor.DaclOf.TheVariants.{Absent, Null, List as Entries}
use Rattle.sd_line.specs.Line.{Form, LineOf, form, line_of}
use Rattle.sd_line.specs.declared.line.Value.{Value}
use Rattle.sd_line.specs.declared.line.Value.TheVariants as values
use Rattle.sd_sid.specs.Sid.{SidValue}
use Rattle.sd_whole.specs.Reading.{WholeAcl}
use Rattle.sd_whole.specs.declared.ace.WholeAce.{WholeAce}
use Rattle.sd_whole.specs.declared.descriptor.WholeDescriptor.{WholeDescriptor}
use Rattle.sd_whole.specs.declared.list.ListRevision.{ListRevision}
use Rattle.sd_whole.specs.declared.list.ListRevision.TheVariants.{Standard, DirectoryService}
use Rattle.sd_whole_text.specs.declared.no_text.AclKind.{AclKind}
use Rattle.sd_whole_text.specs.declared.no_text.AclKind.TheVariants.{Dacl, Sacl}
use Rattle.sd_wire.specs.Reading.{is_set}
use Rattle.sd_show.specs.Control.{bits_of, field_of, words_set}
use Rattle.sd_show.specs.Entry.{entry_line}
use Rattle.sd_show.specs.declared.control.Field.{Field}
use Rattle.sd_show.specs.declared.control.Field.TheVariants.{Owner, Group, ResourceManager}
use Rattle.sd_show.specs.declared.forms.TheConstants.{DACL, DACL_ABSENT, DACL_EMPTY, DACL_NULL, ENTRY, GROUP, NO_GROUP}
use Rattle.sd_show.specs.declared.forms.TheConstants.{NO_OWNER, OWNER, RESOURCE_MANAGER, SACL, SACL_ABSENT, SACL_NULL}
use Rattle.sd_show.specs.declared.show.TheConstants.{REVISION_WORD}

-- ---- owner, group, resource manager

-- the words of the control bits of a part
abbrev pub bits_value : Field → ℕ → Value
bits_value field control = values.Words (words_set (bits_of field) control)

-- an owner or a group, if there is one, and what its control bit says
abbrev pub trustee_line : (present absent : Form) → Option SidValue → Value → LineOf
trustee_line present absent (Some sid) bits = line_of present (values.Sid sid ∷ bits ∷ [])
trustee_line present absent None bits = line_of absent (bits ∷ [])

-- the byte, where it isn't 0 or RM is set (Sbz1)
abbrev pub manager_lines : (byte control : ℕ) → List LineOf
manager_lines byte control =
    if byte == 0 && not (is_set 0x4000 control) then []
    else line_of (form RESOURCE_MANAGER) (values.Number byte ∷ bits_value ResourceManager control ∷ []) ∷ []

-- ---- the lists (2.4.5)

-- the line before the entries
abbrev pub acl_form : AclKind → WholeAcl → Form
acl_form Dacl Absent = form DACL_ABSENT
acl_form Dacl Null = form DACL_NULL
acl_form Dacl (Entries list) = if length list.entries == 0 then form DACL_EMPTY else form DACL
acl_form Sacl Absent = form SACL_ABSENT
acl_form Sacl Null = form SACL_NULL
acl_form Sacl (Entries list) = form SACL

-- the list's revision is 4, and not 2
abbrev pub is_revision_4 : ListRevision → Bool
is_revision_4 Standard = false
is_revision_4 DirectoryService = true

abbrev pub is_of_directory : WholeAcl → Bool
is_of_directory Absent = false
is_of_directory Null = false
is_of_directory (Entries list) = is_revision_4 list.revision

-- its control bits, and its revision where that is 4
abbrev pub acl_words : AclKind → ℕ → WholeAcl → List (List ℕ)
acl_words kind control acl =
    words_set (bits_of (field_of kind)) control ++ (if is_of_directory acl then REVISION_WORD.now ∷ [] else [])

-- the entries: none where there is no list
abbrev pub entries_of : WholeAcl → List WholeAce
entries_of Absent = []
entries_of Null = []
entries_of (Entries list) = list.entries

-- an entry, if there is one, with its number, counted from 1
abbrev pub entry_at : AclKind → ℕ → Option WholeAce → List LineOf
entry_at kind number None = []
entry_at kind number (Some e) = entry_line (form ENTRY) kind (number ∷ []) e ∷ []

-- the lines of the entries before a place
unfoldable pub entries_below : AclKind → List WholeAce → ℕ → List LineOf
entries_below kind es zero = []
entries_below kind es (suc k) = entries_below kind es k ++ entry_at kind (k + 1) (slice_get es k)

abbrev pub acl_lines : AclKind → ℕ → WholeAcl → List LineOf
acl_lines kind control acl =
    line_of (acl_form kind acl) (values.Words (acl_words kind control acl) ∷ [])
    ∷ entries_below kind (entries_of acl) (length (entries_of acl))

-- ---- the descriptor

abbrev pub shown : WholeDescriptor → List LineOf
shown d =
    trustee_line (form OWNER) (form NO_OWNER) d.owner (bits_value Owner d.control)
    ∷ trustee_line (form GROUP) (form NO_GROUP) d.group (bits_value Group d.control)
    ∷ (manager_lines d.resource_manager d.control ++ acl_lines Dacl d.control d.dacl
    ++ acl_lines Sacl d.control d.sacl)
