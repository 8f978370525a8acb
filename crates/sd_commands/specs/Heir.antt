-- What `create`, `inherit` and `stale` answer: what an object gets in a container ([MS-DTYP] 2.5.3.4), and what it
-- inherits again.
use Rattle.std.specs.Prelude.{ℕ, Bool, true, false, List, [], ◌∷◌, ◌++◌, Some, Result, Ok, Err, codes, if◌then◌else◌}
use Rattle.std.specs.Borrow.{Bor}
use Rattle.sd_acl.specs.declared.ace.AceKind.TheVariants.{Allow}
use Rattle.sd_acl.specs.declared.descriptor.DaclOf.TheVariants.{Absent, Null, List as Entries}
use Rattle.sd_answer.specs.declared.forms.TheConstants.{FAULT_NAMED, SAME}
use Rattle.sd_create.specs.Create.{CreationValue, created, fault_name, fault_number}
use Rattle.sd_create.specs.Propagation.{InheritanceValue, descriptor_after}
use Rattle.sd_create.specs.declared.fault.CreateFault.{CreateFault}
use Rattle.sd_create.specs.declared.fault.CreateFault.TheVariants.{Owner, NoOwner, NoGroup, TooLarge}
use Rattle.sd_inheritance.specs.declared.kind.NodeKind.{NodeKind}
use Rattle.sd_inheritance.specs.declared.kind.NodeKind.TheVariants.{Container, Object}
use Rattle.sd_line.specs.Line.{LineOf, form, line_of}
use Rattle.sd_line.specs.declared.line.Value.TheVariants as values
use Rattle.sd_show.specs.Diff.{changes}
use Rattle.sd_sid.specs.Sid.{SidValue}
use Rattle.sd_usage.specs.declared.row.HeirCommand.{HeirCommand}
use Rattle.sd_usage.specs.declared.row.HeirCommand.TheVariants as commands
use Rattle.sd_whole.specs.Reading.{WholeAcl}
use Rattle.sd_whole.specs.declared.ace.WholeAce.{WholeAce}
use Rattle.sd_whole.specs.declared.ace.WholeAce.TheVariants.{Plain}
use Rattle.sd_whole.specs.declared.descriptor.WholeDescriptor.{WholeDescriptor}
use Rattle.sd_whole.specs.declared.list.ListRevision.TheVariants.{Standard}
use Rattle.sd_whole_text.specs.declared.no_text.AclKind.{AclKind}
use Rattle.sd_whole_text.specs.declared.no_text.AclKind.TheVariants.{Dacl, Sacl}
use Rattle.sd_wire.specs.Reading.{is_set}
use Rattle.sd_commands.specs.Answer.{AnswerValue, IsFault, IsFound, Telling}
use Rattle.sd_commands.specs.Argument.{AnswersOfSid, argument}
use Rattle.sd_commands.specs.Diagnostic.{told_line}
use Rattle.sd_commands.specs.Whole.{PrintsWhole, acl_name, without_bits}
use Rattle.sd_commands.specs.WholeText.{AnswersOfWhole}
use Rattle.sd_commands.specs.declared.settings.Settings.{Settings}

-- what inherits is an object, or a container
abbrev pub heir_kind : Settings → NodeKind
heir_kind settings = if settings.object then Object else Container

-- ---- an object that gets no descriptor

abbrev pub heir_fault_line : CreateFault → LineOf
heir_fault_line fault = line_of (form FAULT_NAMED) (values.Text (codes "object")
    ∷ values.Number (fault_number fault) ∷ values.Text (fault_name fault) ∷ [])

abbrev pub heir_reason : CreateFault → List ℕ
heir_reason Owner = codes "the owner isn't USER"
heir_reason NoOwner = codes "no owner, for whom CREATOR OWNER would stand"
heir_reason NoGroup = codes "no group, for which CREATOR GROUP would stand"
heir_reason TooLarge = codes "with what is inherited, a list would take more than 65535 bytes"

-- what is answered of the descriptor, or why there is none, which is said of the argument of this name
abbrev pub AnswersObject : List ℕ → (WholeDescriptor → AnswerValue → Type 0) → Result WholeDescriptor CreateFault
    → AnswerValue → Type 0
AnswersObject name Answers (Ok d) = Answers d
AnswersObject name Answers (Err fault) = IsFault (heir_fault_line fault) (told_line name (heir_reason fault))

-- ---- what a new object gets

-- SYSTEM, S-1-5-18
abbrev pub system : SidValue
system = record { authority = 5; subs = 18 ∷ [] }

-- GENERIC_ALL is allowed (2.4.3)
abbrev pub all_rights : SidValue → WholeAce
all_rights sid = Plain (record { kind = Allow; flags = record { 0 = 0 }; mask = 0x10000000; sid = sid })

-- the default DACL of a user's token, as Windows makes it
abbrev pub default_dacl : SidValue → WholeAcl
default_dacl user = Entries (record { revision = Standard; entries = all_rights user ∷ all_rights system ∷ [] })

-- DACL_AUTO_INHERIT and SACL_AUTO_INHERIT; the token may make the user alone the owner
abbrev pub creation_in : Settings → (parent creator : WholeDescriptor) → (user group : SidValue) → CreationValue
creation_in settings parent creator user group = record {
  parent = Some parent;
  creator = Some creator;
  kind = heir_kind settings;
  types = [];
  flags = 0x03;
  token = record { owner = user; group = group; dacl = default_dacl user; owners = user ∷ []; restore = false };
  mapping = settings.mapping;
}

-- DD is set: the DACL is the token's
abbrev pub default_note : WholeDescriptor → List ℕ
default_note d = if is_set 0x0008 d.control then
    told_line (codes "PARENT") (codes "passes down no entry: the DACL grants all rights to USER and SYSTEM") else []

-- the text of the new object's descriptor, without the control bits that have none
abbrev pub AnswersCreated : Settings → WholeDescriptor → AnswerValue → Type 0
AnswersCreated settings d = Telling (default_note d) (PrintsWhole (codes "CREATOR") settings (without_bits d))

abbrev pub AnswersCreation : Settings → (parent creator : WholeDescriptor) → (user group : SidValue) → AnswerValue
    → Type 0
AnswersCreation settings parent creator user group =
    AnswersObject (codes "CREATOR") (AnswersCreated settings) (created (creation_in settings parent creator user group))

abbrev pub AnswersCreationFor : Settings → List (Bor (List ℕ)) → (parent creator : WholeDescriptor) → SidValue
    → AnswerValue → Type 0
AnswersCreationFor settings arguments parent creator user = AnswersOfSid (codes "GROUP") settings
    (argument arguments 2) (AnswersCreation settings parent creator user)

abbrev pub AnswersCreationBy : Settings → List (Bor (List ℕ)) → (parent creator : WholeDescriptor) → AnswerValue
    → Type 0
AnswersCreationBy settings arguments parent creator = AnswersOfSid (codes "USER") settings
    (argument arguments 1) (AnswersCreationFor settings arguments parent creator)

-- the arguments are what the creator gives, the user, and the group of its token
abbrev pub AnswersCreationIn : Settings → List (Bor (List ℕ)) → WholeDescriptor → AnswerValue → Type 0
AnswersCreationIn settings arguments parent = AnswersOfWhole (codes "CREATOR") settings
    (argument arguments 0) (AnswersCreationBy settings arguments parent)

-- ---- what an object inherits again

abbrev pub inheritance_in : Settings → (child parent : WholeDescriptor) → InheritanceValue
inheritance_in settings child parent = record {
  parent = parent;
  child = child;
  kind = heir_kind settings;
  types = [];
  mapping = settings.mapping;
}

-- why a list inherits nothing
abbrev pub idle_line : AclKind → List ℕ → List ℕ
idle_line kind why =
    told_line (codes "CHILD") (codes "the " ++ acl_name kind ++ codes " is " ++ why ++ codes ": it inherits nothing")

abbrev pub idle_note : AclKind → (is_protected : Bool) → WholeAcl → List ℕ
idle_note kind true acl = idle_line kind (codes "protected")
idle_note kind false Absent = []
idle_note kind false Null = idle_line kind (codes "null")
idle_note kind false (Entries list) = []

-- PD, PS (2.4.6)
abbrev pub idle_notes : WholeDescriptor → List ℕ
idle_notes d = idle_note Dacl (is_set 0x1000 d.control) d.dacl ++ idle_note Sacl (is_set 0x2000 d.control) d.sacl

-- the text of the descriptor, or what differs in it
abbrev pub AnswersHeirAfter : HeirCommand → Settings → WholeDescriptor → WholeDescriptor → AnswerValue → Type 0
AnswersHeirAfter commands.Stale settings child after = IsFound (line_of (form SAME) []) (changes child after)
AnswersHeirAfter question settings child after = PrintsWhole (codes "CHILD") settings after

abbrev pub AnswersInheritance : HeirCommand → Settings → (child parent : WholeDescriptor) → AnswerValue → Type 0
AnswersInheritance question settings child parent = Telling (idle_notes child)
    (AnswersObject (codes "CHILD") (AnswersHeirAfter question settings child)
    (descriptor_after (inheritance_in settings child parent)))

-- the argument is the container's descriptor
abbrev pub AnswersInheritanceOf : HeirCommand → Settings → List (Bor (List ℕ)) → WholeDescriptor → AnswerValue → Type 0
AnswersInheritanceOf question settings arguments child = AnswersOfWhole (codes "PARENT") settings
    (argument arguments 0) (AnswersInheritance question settings child)

-- ---- commands

abbrev pub AnswersHeir : HeirCommand → Settings → List ℕ → List (Bor (List ℕ)) → AnswerValue → Type 0
AnswersHeir commands.Create settings text arguments =
    AnswersOfWhole (codes "PARENT") settings text (AnswersCreationIn settings arguments)
AnswersHeir question settings text arguments =
    AnswersOfWhole (codes "CHILD") settings text (AnswersInheritanceOf question settings arguments)
