-- What `sort` answers under `--whole`: the descriptor with its DACL in canonical order ([MS-DTYP] 2.4.5), and what
-- moved for that.
use Rattle.std.specs.Prelude.{◌≡◌, ℕ, zero, suc, ◌+◌, nat_lt, List, [], ◌++◌, length, take}
use Rattle.std.specs.Prelude.{slice_get, position, codes}
use Rattle.std.specs.Fmt.{decimal}
use Rattle.std.specs.Option.{option_map_or}
use Rattle.sd_acl.specs.declared.descriptor.DaclOf.TheVariants.{Absent, Null, List as Entries}
use Rattle.sd_whole.specs.Order.{IsCanonicalOrder, rank}
use Rattle.sd_whole.specs.Reading.{WholeAcl}
use Rattle.sd_whole.specs.declared.ace.WholeAce.{WholeAce}
use Rattle.sd_whole.specs.declared.descriptor.WholeDescriptor.{WholeDescriptor}
use Rattle.sd_commands.specs.Answer.{AnswerValue, IsTold}
use Rattle.sd_commands.specs.Diagnostic.{told_line}
use Rattle.sd_commands.specs.Whole.{PrintsWhole}
use Rattle.sd_commands.specs.declared.settings.Settings.{Settings}

-- the list is in canonical order, and of the same revision
abbrev pub IsSortedAcl : WholeAcl → WholeAcl → Type 0
IsSortedAcl (Entries list) (Entries sorted) =
    IsCanonicalOrder list.entries sorted.entries × (sorted.revision ≡ list.revision)
IsSortedAcl acl sorted = sorted ≡ acl

-- an entry moves before the first one that belongs behind it
abbrev pub move_note : ℕ → ℕ → List ℕ
move_note place first = told_line (codes "SDDL")
    (codes "entry " ++ decimal (place + 1) ++ codes " moves before entry " ++ decimal (first + 1))

abbrev pub note_on : List WholeAce → ℕ → WholeAce → List ℕ
note_on es place e =
    option_map_or (move_note place) (position (λ other. nat_lt (rank e) (rank other)) (take place es)) []

abbrev pub note_at : List WholeAce → ℕ → List ℕ
note_at es place = option_map_or (note_on es place) (slice_get es place) []

-- the notes on the entries below a place
unfoldable pub notes_below : List WholeAce → ℕ → List ℕ
notes_below es zero = []
notes_below es (suc k) = notes_below es k ++ note_at es k

abbrev pub acl_notes : WholeAcl → List ℕ
acl_notes Absent = []
acl_notes Null = []
acl_notes (Entries list) = notes_below list.entries (length list.entries)

-- the descriptor with its DACL in order is printed, and standard error says before all else what moves
abbrev pub AnswersSorted : Settings → WholeDescriptor → AnswerValue → Type 0
AnswersSorted settings d answer =
    (sorted : WholeAcl) × IsSortedAcl d.dacl sorted
    × (inner : AnswerValue) × IsTold (acl_notes d.dacl) inner answer
    × PrintsWhole (codes "SDDL") settings (record d { dacl = sorted }) inner
