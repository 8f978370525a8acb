-- The lines of risks, which `--risks` adds to those of `lint`.
use Rattle.std.specs.Prelude.{ℕ, if◌then◌else◌, Option, Some, None, List, [], ◌∷◌, ◌++◌, codes, map}
use Rattle.sd_sid.specs.Sid.{SidValue}
use Rattle.sd_acl.specs.Descriptor.{DescriptorValue}
use Rattle.sd_acl.specs.declared.ace.Ace.{Ace}
use Rattle.sd_check.specs.declared.token.GroupState.{GroupState}
use Rattle.sd_analysis.specs.Risks.{risks_of}
use Rattle.sd_analysis.specs.declared.descendants.Descendant.{Descendant}
use Rattle.sd_analysis.specs.declared.risks.Right.{Right}
use Rattle.sd_analysis.specs.declared.risks.Right.TheVariants.{FullControl, Write, Delete, ChangePermissions}
use Rattle.sd_analysis.specs.declared.risks.Risk.{Risk}
use Rattle.sd_analysis.specs.declared.risks.Risk.TheVariants.{EmptyList, OwnerCannotRead, Grants, UnknownEntry}
use Rattle.sd_analysis.specs.declared.risks.Risk.TheVariants.{UnknownOwner, UnknownGroup}
use Rattle.sd_line.specs.Line.{Form, LineOf, form, line_of, line_with, part_of}
use Rattle.sd_line.specs.declared.line.Value.TheVariants as values
use Rattle.sd_answer.specs.Lines.{made_parts}
use Rattle.sd_answer.specs.declared.forms.TheConstants.{EMPTY_DACL, OWNER_CANNOT_READ, RISKY_GRANT, RISKY_GRANT_BELOW}
use Rattle.sd_answer.specs.declared.forms.TheConstants.{UNKNOWN_GROUP, UNKNOWN_OWNER, UNKNOWN_SID}
use Rattle.sd_commands.specs.Concern.{sids_of}
use Rattle.sd_commands.specs.declared.settings.Settings.{Settings}

abbrev pub right_name : Right → List ℕ
right_name FullControl = codes "full-control"
right_name Write = codes "write"
right_name Delete = codes "delete"
right_name ChangePermissions = codes "change-permissions"

-- a line about a SID
abbrev pub about : Form → SidValue → LineOf
about f s = line_of f (values.Sid s ∷ [])

-- of the object, or of what is made in it
abbrev pub grant_form : Option Descendant → Form
grant_form None = form RISKY_GRANT
grant_form (Some d) = form RISKY_GRANT_BELOW

abbrev pub grant_line : Option Descendant → SidValue → Right → LineOf
grant_line whose s right = line_with (grant_form whose).0
    (made_parts whose
    ++ part_of (grant_form whose).1 (values.Sid s ∷ values.Text (right_name right) ∷ []) ∷ [])

-- an entry, counted from 1
abbrev pub unknown_line : ℕ → Ace → LineOf
unknown_line number e = line_of (form UNKNOWN_SID) (values.Number number ∷ values.Entry e ∷ [])

abbrev pub risk_line : Risk → LineOf
risk_line EmptyList = line_of (form EMPTY_DACL) []
risk_line (OwnerCannotRead s) = about (form OWNER_CANNOT_READ) s
risk_line (Grants whose s right) = grant_line whose s right
risk_line (UnknownEntry number e) = unknown_line number e
risk_line (UnknownOwner s) = about (form UNKNOWN_OWNER) s
risk_line (UnknownGroup s) = about (form UNKNOWN_GROUP) s

-- the lines of a descriptor's risks, where they are asked for
abbrev pub risk_lines : Settings → DescriptorValue → List (SidValue × GroupState) → List LineOf
risk_lines settings d base =
    if settings.risks then map risk_line (risks_of settings.mapping base (sids_of settings.concern) d) else []
