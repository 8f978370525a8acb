-- What `why` answers: the verdict's line, and one for each part of the answer, in the order of their least bits.
use Rattle.std.specs.Prelude.{ℕ, zero, suc, ◌+◌, List, [], ◌∷◌, ◌++◌, Option, Some, None, slice_get, codes}
use Rattle.std.specs.Prelude.{if◌then◌else◌}
use Rattle.sd_sid.specs.Sid.{SidValue}
use Rattle.sd_sid.specs.Mapping.{MappingValue}
use Rattle.sd_acl.specs.Descriptor.{DescriptorValue}
use Rattle.sd_check.specs.Check.{subject, verdict, dacl_entries}
use Rattle.sd_acl.specs.declared.ace.Ace.{Ace}
use Rattle.sd_check.specs.Token.{TokenValue}
use Rattle.sd_explain.specs.Reasons.{grants, reasons_of}
use Rattle.sd_explain.specs.Parts.{part_at, reason_in, told_verdict}
use Rattle.sd_explain.specs.declared.explanation.Part.{Part}
use Rattle.sd_explain.specs.declared.reason.Finding.{Finding}
use Rattle.sd_explain.specs.declared.reason.Finding.TheVariants.{Allowed, Denied, NoEntry}
use Rattle.sd_explain.specs.declared.reason.Cause.{Cause}
use Rattle.sd_explain.specs.declared.reason.Cause.TheVariants.{NoList, Listed, Restricted, Owner}
use Rattle.sd_explain.specs.declared.reason.Cause.TheVariants.{TakeOwnership, Security, NoSecurity, BeyondAll, Reserved}
use Rattle.sd_explain.specs.declared.reason.Cause.TheVariants.{Label}
use Rattle.sd_explain.specs.declared.reason.Reason.{Reason}
use Rattle.sd_line.specs.Line.{Form, LineOf, PartOf, form, line_with, part_of, word_part}
use Rattle.sd_line.specs.declared.line.Value.{Value}
use Rattle.sd_line.specs.declared.line.Value.TheVariants as values
use Rattle.sd_analysis.specs.Sufficient.{entries_or_none}
use Rattle.sd_answer.specs.VerdictLines.{verdict_line}
use Rattle.sd_answer.specs.declared.forms.TheConstants.{AS, BEYOND, BY, BY_ENTRY, BY_NO, DENIED, GRANTED}
use Rattle.sd_answer.specs.declared.forms.TheConstants.{SECOND_BY_ENTRY, SECOND_BY_NO, TO_THE, WITHOUT, WITHOUT_A}

-- the SID that the token stands for
abbrev pub subject_value : Option SidValue → Value
subject_value None = values.Text []
subject_value (Some s) = values.Sid s

-- an entry, counted from 1, and whom it speaks of
abbrev pub entry_parts : List ℕ → Option SidValue → ℕ → Option Ace → List PartOf
entry_parts form owner place None = []
entry_parts form owner place (Some e) =
    part_of form (values.Number (place + 1) ∷ values.Entry e ∷ subject_value (subject owner e.sid) ∷ []) ∷ []

abbrev pub finding_parts : (by_entry by_no : List ℕ) → Option SidValue → List Ace → Finding → List PartOf
finding_parts by_entry by_no owner es (Allowed place) = entry_parts by_entry owner place (slice_get es place)
finding_parts by_entry by_no owner es (Denied place) = entry_parts by_entry owner place (slice_get es place)
finding_parts by_entry by_no owner es NoEntry = word_part by_no (codes "entry") ∷ []

-- of a restricted token each pass has its own reason
abbrev pub cause_parts : Option SidValue → List Ace → Cause → List PartOf
cause_parts owner es NoList = word_part WITHOUT_A.now (codes "list") ∷ []
cause_parts owner es (Listed finding) = finding_parts BY_ENTRY.now BY_NO.now owner es finding
cause_parts owner es (Restricted first second) =
    finding_parts BY_ENTRY.now BY_NO.now owner es first
    ++ finding_parts SECOND_BY_ENTRY.now SECOND_BY_NO.now owner es second
cause_parts owner es Owner = word_part TO_THE.now (codes "owner") ∷ []
cause_parts owner es TakeOwnership = word_part BY.now (codes "SeTakeOwnershipPrivilege") ∷ []
cause_parts owner es Security = word_part BY.now (codes "SeSecurityPrivilege") ∷ []
cause_parts owner es NoSecurity = word_part WITHOUT.now (codes "SeSecurityPrivilege") ∷ []
cause_parts owner es BeyondAll = word_part BEYOND.now (codes "GENERIC_ALL") ∷ []
cause_parts owner es Reserved = word_part AS.now (codes "reserved") ∷ []
cause_parts owner es Label = word_part BY.now (codes "the label") ∷ []

abbrev pub verb_of : Cause → Form
verb_of cause = if grants cause then form GRANTED else form DENIED

-- the line of the part that begins at a place, where one does
abbrev pub line_at : Option SidValue → List Ace → Option Part → List LineOf
line_at owner es None = []
line_at owner es (Some part) = line_with (verb_of part.cause).0
    (part_of (verb_of part.cause).1 (values.Mask part.mask ∷ []) ∷ cause_parts owner es part.cause) ∷ []

-- the lines of the parts that begin at places below n, in order
unfoldable pub part_lines : Option SidValue → List Ace → (ℕ → Option Reason) → ℕ → List LineOf
part_lines owner es reasons zero = []
part_lines owner es reasons (suc k) = part_lines owner es reasons k ++ line_at owner es (part_at reasons k)

-- the verdict that the reasons of all places come to, and their parts, by the entries of this descriptor
abbrev pub explanation_lines : DescriptorValue → List (Option Reason) → List LineOf
explanation_lines d reasons =
    verdict_line (told_verdict (reason_in reasons))
    ∷ part_lines d.owner (entries_or_none (dacl_entries d.dacl)) (reason_in reasons) 32

abbrev pub why_lines : MappingValue → DescriptorValue → TokenValue → ℕ → List LineOf
why_lines g d t asked =
    verdict_line (verdict d.owner (dacl_entries d.dacl) g t asked)
    ∷ part_lines d.owner (entries_or_none (dacl_entries d.dacl))
    (reason_in (reasons_of d.owner (dacl_entries d.dacl) g t asked)) 32
