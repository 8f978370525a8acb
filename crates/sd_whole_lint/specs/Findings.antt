-- What `lint` answers of a whole DACL for one question, whoever asks: what is doubtful in it, a line for each finding,
-- entry by entry. Each entry has its place in the plain list that the whole one is.
use Rattle.std.specs.Prelude.{◌≡◌, ℕ, zero, suc, ◌+◌, Bool, true, false, not, ◌&&◌, ◌==◌, nat_lt, if◌then◌else◌}
use Rattle.std.specs.Prelude.{Option, Some, None, List, [], ◌∷◌, ◌++◌, length, take, slice_get, position}
use Rattle.sd_sid.specs.Mapping.{MappingValue}
use Rattle.sd_sid.specs.Sid.{SidValue}
use Rattle.sd_acl.specs.Dacl.{Dacl}
use Rattle.sd_acl.specs.Descriptor.{DescriptorValue}
use Rattle.sd_acl.specs.declared.ace.Ace.{Ace}
use Rattle.sd_acl.specs.declared.descriptor.DaclOf.TheVariants.{Absent, Null, List as Entries}
use Rattle.sd_text.specs.declared.right_names.RightNames.{RightNames}
use Rattle.sd_check.specs.Check.{is_limit}
use Rattle.sd_check.specs.declared.token.GroupState.{GroupState}
use Rattle.sd_analysis.specs.Redundant.{AreRedundant, is_marked}
use Rattle.sd_whole.specs.Order.{rank}
use Rattle.sd_whole.specs.Reading.{WholeAcl}
use Rattle.sd_whole.specs.declared.ace.TypedAce.{TypedAce}
use Rattle.sd_whole.specs.declared.ace.WholeAce.{WholeAce}
use Rattle.sd_whole.specs.declared.ace.WholeAce.TheVariants.{Plain, Typed, Opaque}
use Rattle.sd_whole.specs.declared.kind.WholeKind.{WholeKind}
use Rattle.sd_whole.specs.declared.kind.WholeKind.TheVariants.{ObjectAllow, ObjectDeny, CallbackObjectAllow}
use Rattle.sd_whole.specs.declared.kind.WholeKind.TheVariants.{CallbackObjectDeny}
use Rattle.sd_whole.specs.declared.types.Guid.{Guid}
use Rattle.sd_specialize.specs.Entry.{allows_type, denies_type}
use Rattle.sd_show.specs.Same.{same_entry}
use Rattle.sd_line.specs.Line.{Form, LineOf, form, line_of}
use Rattle.sd_line.specs.declared.line.Value.{Value}
use Rattle.sd_line.specs.declared.line.Value.TheVariants as values
use Rattle.sd_answer.specs.Lint.{is_stranded}
use Rattle.sd_answer.specs.declared.forms.TheConstants.{LIMITS_OWNER, NOT_INHERITED, NO_DACL, NO_EFFECT, NO_RIGHT}
use Rattle.sd_answer.specs.declared.forms.TheConstants.{NULL_DACL, OUT_OF_ORDER, REPEATED}
use Rattle.sd_whole_lint.specs.EntryText.{entry_value}

-- ---- of the whole entries themselves

-- the later one belongs before the earlier one in canonical order ([MS-DTYP] 2.4.5)
abbrev pub belongs_before : WholeAce → WholeAce → Bool
belongs_before later earlier = nat_lt (rank later) (rank earlier)

-- its mask has no bit
abbrev pub names_no_right : WholeAce → Bool
names_no_right (Plain e) = e.mask == 0
names_no_right (Typed e) = e.mask == 0
names_no_right (Opaque e) = false

-- ---- for the question

-- the object type of an entry of this kind is one of those that are asked about (2.5.3.2)
abbrev pub is_asked_about : WholeKind → List Guid → TypedAce → Bool
is_asked_about ObjectAllow chain e = allows_type chain e.types.object
is_asked_about ObjectDeny chain e = denies_type chain e.types.object
is_asked_about CallbackObjectAllow chain e = allows_type chain e.types.object
is_asked_about CallbackObjectDeny chain e = denies_type chain e.types.object
is_asked_about _ chain e = true

-- the entry isn't for another object type
abbrev pub has_part : List Guid → WholeAce → Bool
has_part chain (Plain e) = true
has_part chain (Typed e) = is_asked_about e.kind chain e
has_part chain (Opaque e) = true

-- it waits to be inherited, and nothing inherits it: IO without OI or CI of the plain entry
abbrev pub is_lost : List Guid → WholeAce → Ace → Bool
is_lost chain w e = has_part chain w && is_stranded e

-- it is redundant, as its mark says, and not because nothing inherits it, nor for its object type alone
abbrev pub is_useless : List Guid → WholeAce → Ace → Bool → Bool
is_useless chain w e mark = mark && not (is_stranded e) && has_part chain w

-- ---- lines

-- which entry it is, counted from 1
abbrev pub entry_values : RightNames → ℕ → WholeAce → List Value
entry_values names place w = values.Number (place + 1) ∷ entry_value names w ∷ []

-- what is so of an entry, where it is
abbrev pub where_so : RightNames → Bool → ℕ → WholeAce → Form → List LineOf
where_so names test place w f = if test then line_of f (entry_values names place w) ∷ [] else []

-- what an entry is to the first earlier one of which it is so
abbrev pub where_behind : RightNames → Option ℕ → ℕ → WholeAce → Form → List LineOf
where_behind names None place w f = []
where_behind names (Some earlier) place w f =
    line_of f (entry_values names place w ++ values.Number (earlier + 1) ∷ []) ∷ []

-- the findings of an entry behind these, by the plain one that it is, and by a mark whether that is redundant
unfoldable pub entry_lines : RightNames → List Guid → List WholeAce → WholeAce → Ace → Bool → List LineOf
entry_lines names chain before w e mark =
    let place = length before in
    where_behind names (position (belongs_before w) before) place w (form OUT_OF_ORDER)
    ++ where_so names (names_no_right w) place w (form NO_RIGHT)
    ++ where_so names (is_lost chain w e) place w (form NOT_INHERITED)
    ++ where_behind names (position (same_entry w) before) place w (form REPEATED)
    ++ where_so names (is_useless chain w e mark) place w (form NO_EFFECT)
    ++ where_so names (is_limit e) place w (form LIMITS_OWNER)

abbrev pub lines_at : RightNames → List Guid → List WholeAce → ℕ → Option WholeAce → Option Ace → Bool → List LineOf
lines_at names chain ws place None plain mark = []
lines_at names chain ws place (Some w) None mark = []
lines_at names chain ws place (Some w) (Some e) mark = entry_lines names chain (take place ws) w e mark

-- the lines of the entries below a place
unfoldable pub list_lines : RightNames → List Guid → List WholeAce → List Ace → List Bool → ℕ → List LineOf
list_lines names chain ws es marks zero = []
list_lines names chain ws es marks (suc k) = list_lines names chain ws es marks k
    ++ lines_at names chain ws k (slice_get ws k) (slice_get es k) (is_marked marks k)

abbrev pub whole_entries : WholeAcl → List WholeAce
whole_entries Absent = []
whole_entries Null = []
whole_entries (Entries list) = list.entries

-- the lines on a whole DACL that is this plain one, of this owner's, whose redundant entries are marked
abbrev pub AreDaclLines : RightNames → List Guid → MappingValue → List (SidValue × GroupState) → WholeAcl
    → Option SidValue → Dacl → List LineOf → Type 0
AreDaclLines names chain g base whole owner Absent lines = lines ≡ line_of (form NO_DACL) [] ∷ []
AreDaclLines names chain g base whole owner Null lines = lines ≡ line_of (form NULL_DACL) [] ∷ []
AreDaclLines names chain g base whole owner (Entries es) lines =
    (marks : List Bool) × AreRedundant owner es g base marks
    × (lines ≡ list_lines names chain (whole_entries whole) es marks (length es))

abbrev pub AreWholeFindings : RightNames → List Guid → MappingValue → List (SidValue × GroupState) → WholeAcl
    → DescriptorValue → List LineOf → Type 0
AreWholeFindings names chain g base whole d lines = AreDaclLines names chain g base whole d.owner d.dacl lines
