-- What `lint` answers: what is doubtful in a descriptor's DACL, a line for each finding, entry by entry.
use Rattle.std.specs.Prelude.{◌≡◌, ℕ, zero, suc, ◌+◌, Bool, not, ◌&&◌, ◌||◌, ◌==◌, if◌then◌else◌, Option, Some, None}
use Rattle.std.specs.Prelude.{List, [], ◌∷◌, ◌++◌, length, take, slice_get, position}
use Rattle.sd_sid.specs.Mapping.{MappingValue}
use Rattle.sd_sid.specs.Sid.{SidValue}
use Rattle.sd_acl.specs.Ace.{is_inherit_only, passes_on, same_ace}
use Rattle.sd_acl.specs.Canonical.{is_inherited, is_explicit, allows, denies}
use Rattle.sd_acl.specs.Dacl.{Dacl}
use Rattle.sd_acl.specs.Descriptor.{DescriptorValue}
use Rattle.sd_acl.specs.declared.ace.Ace.{Ace}
use Rattle.sd_acl.specs.declared.descriptor.DaclOf.TheVariants.{Absent, Null, List as Entries}
use Rattle.sd_check.specs.Check.{is_limit}
use Rattle.sd_check.specs.declared.token.GroupState.{GroupState}
use Rattle.sd_analysis.specs.Redundant.{AreRedundant, is_marked}
use Rattle.sd_line.specs.Line.{Form, LineOf, form, line_of}
use Rattle.sd_line.specs.declared.line.Value.{Value}
use Rattle.sd_line.specs.declared.line.Value.TheVariants as values
use Rattle.sd_answer.specs.declared.forms.TheConstants.{LIMITS_OWNER, NOT_INHERITED, NO_DACL, NO_EFFECT, NO_RIGHT}
use Rattle.sd_answer.specs.declared.forms.TheConstants.{NULL_DACL, OUT_OF_ORDER, REPEATED}

-- ---- what two entries are to each other

-- the later one stands out of canonical order: an explicit entry behind an inherited one, or an explicit deny behind an
-- explicit allow
abbrev pub is_misplaced : Ace → Ace → Bool
is_misplaced later earlier = is_explicit later && (is_inherited earlier || (allows earlier && denies later))

-- ---- what is wrong with one

-- it waits to be inherited, and nothing inherits it: IO without OI or CI
abbrev pub is_stranded : Ace → Bool
is_stranded e = is_inherit_only e && not (passes_on e.flags.0)

-- it is redundant, as its mark says, and not for this reason alone
abbrev pub is_useless : Ace → Bool → Bool
is_useless e mark = mark && not (is_stranded e)

-- ---- lines

-- which entry it is, counted from 1
abbrev pub entry_values : ℕ → Ace → List Value
entry_values place e = values.Number (place + 1) ∷ values.Entry e ∷ []

-- what is so of an entry, where it is
abbrev pub where_so : Bool → ℕ → Ace → Form → List LineOf
where_so test place e f = if test then line_of f (entry_values place e) ∷ [] else []

-- what an entry is to the first earlier one of which it is so
abbrev pub where_behind : Option ℕ → ℕ → Ace → Form → List LineOf
where_behind None place e f = []
where_behind (Some earlier) place e f =
    line_of f (entry_values place e ++ values.Number (earlier + 1) ∷ []) ∷ []

-- the findings of an entry behind these, by a mark whether it is redundant
unfoldable pub entry_lines : List Ace → Ace → Bool → List LineOf
entry_lines before e mark =
    let place = length before in
    where_behind (position (is_misplaced e) before) place e (form OUT_OF_ORDER)
    ++ where_so (e.mask == 0) place e (form NO_RIGHT)
    ++ where_so (is_stranded e) place e (form NOT_INHERITED)
    ++ where_behind (position (same_ace e) before) place e (form REPEATED)
    ++ where_so (is_useless e mark) place e (form NO_EFFECT)
    ++ where_so (is_limit e) place e (form LIMITS_OWNER)

abbrev pub lines_at : List Ace → ℕ → Option Ace → Bool → List LineOf
lines_at es place None mark = []
lines_at es place (Some e) mark = entry_lines (take place es) e mark

-- the lines of the entries below a place
unfoldable pub list_lines : List Ace → List Bool → ℕ → List LineOf
list_lines es marks zero = []
list_lines es marks (suc k) = list_lines es marks k ++ lines_at es k (slice_get es k) (is_marked marks k)

-- the lines on a DACL of this owner's, whose redundant entries are marked
abbrev pub AreDaclLines : MappingValue → List (SidValue × GroupState) → Option SidValue → Dacl → List LineOf → Type 0
AreDaclLines g base owner Absent lines = lines ≡ line_of (form NO_DACL) [] ∷ []
AreDaclLines g base owner Null lines = lines ≡ line_of (form NULL_DACL) [] ∷ []
AreDaclLines g base owner (Entries es) lines =
    (marks : List Bool) × AreRedundant owner es g base marks × (lines ≡ list_lines es marks (length es))

abbrev pub AreFindings : MappingValue → List (SidValue × GroupState) → DescriptorValue → List LineOf → Type 0
AreFindings g base d lines = AreDaclLines g base d.owner d.dacl lines
