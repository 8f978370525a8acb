-- The lines of risks that `--risks` adds to those of `lint` under `--whole`: what is granted whatever conditions come
-- to, and what may be granted if they allow it.
use Rattle.std.specs.Prelude.{ℕ, ◌-◌, ◌==◌, Bool, true, false, not, ◌&&◌, ◌||◌, Option, Some, None}
use Rattle.std.specs.Prelude.{if◌then◌else◌, List, [], ◌∷◌, ◌++◌, slice_get, Result, Ok}
use Rattle.std.specs.List.{flat_map, list_any}
use Rattle.sd_sid.specs.Sid.{SidValue, same_sid}
use Rattle.sd_acl.specs.Descriptor.{DescriptorValue}
use Rattle.sd_acl.specs.declared.ace.Ace.{Ace}
use Rattle.sd_text.specs.declared.right_names.RightNames.{RightNames}
use Rattle.sd_check.specs.declared.token.GroupState.{GroupState}
use Rattle.sd_analysis.specs.Risks.{risks_of}
use Rattle.sd_analysis.specs.declared.risks.Right.{Right}
use Rattle.sd_analysis.specs.declared.risks.Right.TheVariants.{FullControl, Write, Delete, ChangePermissions}
use Rattle.sd_analysis.specs.declared.risks.Risk.{Risk}
use Rattle.sd_analysis.specs.declared.risks.Risk.TheVariants.{EmptyList, OwnerCannotRead, Grants, UnknownEntry}
use Rattle.sd_analysis.specs.declared.risks.Risk.TheVariants.{UnknownOwner, UnknownGroup}
use Rattle.sd_whole.specs.declared.ace.WholeAce.{WholeAce}
use Rattle.sd_whole.specs.declared.descriptor.WholeDescriptor.{WholeDescriptor}
use Rattle.sd_line.specs.Line.{LineOf, form, line_of}
use Rattle.sd_line.specs.Spelling.{right_names_of}
use Rattle.sd_line.specs.declared.line.Value.{Value}
use Rattle.sd_line.specs.declared.line.Value.TheVariants as values
use Rattle.sd_answer.specs.declared.forms.TheConstants.{UNKNOWN_SID}
use Rattle.sd_specialize.specs.Specialize.{◌>>=◌}
use Rattle.sd_specialize.specs.declared.fault.SpecializeFault.{SpecializeFault}
use Rattle.sd_whole_lint.specs.EntryText.{entry_value}
use Rattle.sd_whole_lint.specs.Findings.{whole_entries}
use Rattle.sd_whole_lint.specs.Bounds.{settled}
use Rattle.sd_whole_lint.specs.declared.bounds.Bound.TheVariants.{Least, Most}
use Rattle.sd_commands.specs.Concern.{sids_of}
use Rattle.sd_commands.specs.Risks.{right_name, risk_line}
use Rattle.sd_commands.specs.declared.forms.TheConstants.{MAY_BE_GRANTED}
use Rattle.sd_commands.specs.declared.settings.Settings.{Settings}

-- ---- lines

-- an entry of the plain list, as the whole list has it
abbrev pub value_of : RightNames → Option WholeAce → Ace → Value
value_of names None e = values.Entry e
value_of names (Some w) e = entry_value names w

-- the line of a risk, whose entry, counted from 1, is that of the whole list
abbrev pub line_in : RightNames → List WholeAce → Risk → LineOf
line_in names ws EmptyList = risk_line EmptyList
line_in names ws (OwnerCannotRead s) = risk_line (OwnerCannotRead s)
line_in names ws (Grants whose s right) = risk_line (Grants whose s right)
line_in names ws (UnknownEntry number e) = line_of (form UNKNOWN_SID)
    (values.Number number ∷ value_of names (slice_get ws (number - 1)) e ∷ [])
line_in names ws (UnknownOwner s) = risk_line (UnknownOwner s)
line_in names ws (UnknownGroup s) = risk_line (UnknownGroup s)

-- ---- what is so whatever conditions come to

abbrev pub is_owner_risk : Risk → Bool
is_owner_risk (OwnerCannotRead s) = true
is_owner_risk risk = false

-- of the risks where least is granted: the owner may still read where it may where most is
abbrev pub is_kept : (most : List Risk) → Risk → Bool
is_kept most risk = not (is_owner_risk risk) || list_any is_owner_risk most

abbrev pub least_lines : RightNames → List WholeAce → (most : List Risk) → Risk → List LineOf
least_lines names ws most risk = if is_kept most risk then line_in names ws risk ∷ [] else []

-- ---- what is so if conditions allow it

abbrev pub right_number : Right → ℕ
right_number FullControl = 0
right_number Write = 1
right_number Delete = 2
right_number ChangePermissions = 3

-- it is that the SID has the right to the object
abbrev pub is_grant : SidValue → Right → Risk → Bool
is_grant s right (Grants None t other) = same_sid s t && right_number right == right_number other
is_grant s right risk = false

-- unless it is granted it anyhow
abbrev pub right_lines : Bool → SidValue → Right → List LineOf
right_lines anyhow s right = if anyhow then []
    else line_of (form MAY_BE_GRANTED) (values.Sid s ∷ values.Text (right_name right) ∷ []) ∷ []

-- of the risks where most is granted: rights to the object that the SID lacks where least is
abbrev pub most_lines : (least : List Risk) → Risk → List LineOf
most_lines least (Grants None s right) = right_lines (list_any (is_grant s right) least) s right
most_lines least risk = []

abbrev pub lines_within : RightNames → List WholeAce → (least most : List Risk) → List LineOf
lines_within names ws least most =
    flat_map (least_lines names ws most) least ++ flat_map (most_lines least) most

-- ---- of a descriptor

abbrev pub lines_between : Settings → WholeDescriptor → List (SidValue × GroupState) → (least most : DescriptorValue)
    → List LineOf
lines_between settings whole base least most =
    lines_within (right_names_of settings.spelling) (whole_entries whole.dacl)
    (risks_of settings.mapping base (sids_of settings.concern) least)
    (risks_of settings.mapping base (sids_of settings.concern) most)

-- the lines, where risks are asked for, of the whole descriptor that is this plain one whoever asks; or that a list
-- gets too large
abbrev pub whole_risk_lines : Settings → WholeDescriptor → DescriptorValue → List (SidValue × GroupState)
    → Result (List LineOf) SpecializeFault
whole_risk_lines settings whole d base = if settings.risks
    then settled Least settings.principal_self whole.dacl d
    >>= (λ least. settled Most settings.principal_self whole.dacl d
    >>= λ most. Ok (lines_between settings whole base least most))
    else Ok []
