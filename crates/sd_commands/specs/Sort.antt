-- What `sort` prints: the descriptor with its DACL in canonical order ([MS-DTYP] 2.4.5), and what moved for that.
use Rattle.std.specs.Prelude.{◌≡◌, ℕ, zero, suc, ◌+◌, Option, Some, None, List, [], ◌++◌, length, filter, take}
use Rattle.std.specs.Prelude.{true, slice_get, position, codes}
use Rattle.std.specs.Fmt.{decimal}
use Rattle.sd_acl.specs.Canonical.{canonical_order, is_canonical, is_explicit, is_inherited}
use Rattle.sd_acl.specs.Dacl.{Dacl}
use Rattle.sd_acl.specs.Descriptor.{DescriptorValue}
use Rattle.sd_acl.specs.declared.ace.Ace.{Ace}
use Rattle.sd_acl.specs.declared.descriptor.DaclOf.TheVariants.{Absent, Null, List as Entries}
use Rattle.sd_text.specs.Canon.{entry_canon_in}
use Rattle.sd_line.specs.Spelling.{right_names_of}
use Rattle.sd_line.specs.declared.spelling.Spelling.{Spelling}
use Rattle.sd_answer.specs.Lint.{is_misplaced}
use Rattle.sd_commands.specs.Diagnostic.{told_line}

-- ---- the order

-- the explicit denies, the explicit allows and what was inherited, of each the entries in their order
abbrev pub sorted : List Ace → List Ace
sorted es = canonical_order (filter is_explicit es) ++ filter is_inherited es

abbrev pub sorted_dacl : Dacl → Dacl
sorted_dacl Absent = Absent
sorted_dacl Null = Null
sorted_dacl (Entries es) = Entries (sorted es)

abbrev pub sorted_descriptor : DescriptorValue → DescriptorValue
sorted_descriptor d = record d { dacl = sorted_dacl d.dacl }

-- a sorted list is in canonical order, and one that is stays as it is
abbrev pub SortedIsCanonical : Type 0
SortedIsCanonical = (es : List Ace) → is_canonical (sorted es) ≡ true

abbrev pub CanonicalStays : Type 0
CanonicalStays = (es : List Ace) → is_canonical es ≡ true → sorted es ≡ es

-- ---- what moved

-- an entry at a place, counted from 1 and with the names of its kind of object
abbrev pub entry_head : Spelling → ℕ → Ace → List ℕ
entry_head spelling place e =
    codes "entry " ++ decimal (place + 1) ++ codes " " ++ entry_canon_in (right_names_of spelling) e ++ codes " "

-- an entry that stands out of canonical order moves before the first one behind which it does
abbrev pub move_note : Option ℕ → List ℕ → List ℕ
move_note None head = []
move_note (Some first) head =
    told_line (codes "SDDL") (head ++ codes "moves before entry " ++ decimal (first + 1))

abbrev pub note_of : Spelling → List Ace → ℕ → Ace → List ℕ
note_of spelling es place e = move_note (position (is_misplaced e) (take place es)) (entry_head spelling place e)

abbrev pub note_at : Spelling → List Ace → ℕ → Option Ace → List ℕ
note_at spelling es place None = []
note_at spelling es place (Some e) = note_of spelling es place e

-- the notes on the entries below a place
unfoldable pub notes_below : Spelling → List Ace → ℕ → List ℕ
notes_below spelling es zero = []
notes_below spelling es (suc k) = notes_below spelling es k ++ note_at spelling es k (slice_get es k)

abbrev pub move_notes : Spelling → Dacl → List ℕ
move_notes spelling Absent = []
move_notes spelling Null = []
move_notes spelling (Entries es) = notes_below spelling es (length es)
