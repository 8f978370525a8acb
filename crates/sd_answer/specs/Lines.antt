-- Lines of bits: those of which the same is said are in one, and the lines are in the order of their lowest bits.
use Rattle.std.specs.Prelude.{ℕ, zero, suc, Bool, true, false, ◌==◌, ◌&&◌, ◌||◌, if◌then◌else◌, Option, Some}
use Rattle.std.specs.Prelude.{None, is_none}
use Rattle.std.specs.Prelude.{List, [], ◌∷◌, ◌++◌, length, map, get_or, slice_set, codes}
use Rattle.std.specs.Borrow.{Bor}
use Rattle.std.specs.Int.{trailing_zeros}
use Rattle.std.specs.Int.Width.{w32}
use Rattle.std.specs.List.{flat_map, position}
use Rattle.sd_sid.specs.Mask.{holds, mask_of}
use Rattle.sd_sid.specs.Sid.{SidValue, same_sid}
use Rattle.sd_analysis.specs.declared.descendants.Descendant.{Descendant}
use Rattle.sd_analysis.specs.declared.descendants.Descendant.TheVariants as made
use Rattle.sd_line.specs.Line.{LineOf, PartOf, line_with, part_of, word_part}
use Rattle.sd_line.specs.declared.line.SidMark.{SidMark}
use Rattle.sd_line.specs.declared.line.SidMark.TheVariants.{Plain, Deny, Restrict}
use Rattle.sd_line.specs.declared.line.Value.{Value}
use Rattle.sd_line.specs.declared.line.Value.TheVariants as shown
use Rattle.sd_answer.specs.declared.forms.TheConstants.{AS_THE, BELOW_NEW, NEW}
use Rattle.sd_answer.specs.declared.lines.BitsLine.{BitsLine}
use Rattle.sd_answer.specs.declared.lines.Whom.{Whom}
use Rattle.sd_answer.specs.declared.lines.Whom.TheVariants.{Everyone, Nobody, Sid, Owner}

-- ---- bits of which the same is said

-- whom something is said of, and SIDs with it
abbrev pub Saying : Type 0
Saying = Whom × List (SidValue × SidMark)

abbrev pub same_whom : Whom → Whom → Bool
same_whom Everyone Everyone = true
same_whom Nobody Nobody = true
same_whom (Sid s) (Sid t) = same_sid s t
same_whom (Owner s) (Owner t) = same_sid s t
same_whom one other = false

abbrev pub same_mark : SidMark → SidMark → Bool
same_mark Plain Plain = true
same_mark Deny Deny = true
same_mark Restrict Restrict = true
same_mark one other = false

abbrev pub same_sids : List (SidValue × SidMark) → List (SidValue × SidMark) → Bool
same_sids [] ts = length ts == 0
same_sids (s ∷ ss) [] = false
same_sids (s ∷ ss) (t ∷ ts) = (same_sid s.0 t.0 && same_mark s.1 t.1) && same_sids ss ts

abbrev pub same_saying : Saying → Saying → Bool
same_saying one other = same_whom one.0 other.0 && same_sids one.1 other.1

-- bits, and what their line says of them
abbrev pub LineValue : Type 0
LineValue = ℕ × Saying

abbrev pub value_of : BitsLine → LineValue
value_of one = (one.mask, one.said)

abbrev pub values : List BitsLine → List LineValue
values lines = map value_of lines

abbrev pub union : ℕ → ℕ → ℕ
union mask other = mask_of (λ b. holds mask b || holds other b) 32

-- with more bits: they join the line at this place, or have one of their own
abbrev pub joined_at : Option ℕ → List LineValue → ℕ → Saying → List LineValue
joined_at None lines mask said = lines ++ (mask, said) ∷ []
joined_at (Some i) lines mask said = slice_set lines i (union (get_or lines i (mask, said)).0 mask, said)

-- they join those of which the same is said, if there are any
unfoldable pub joined : List LineValue → ℕ → Saying → List LineValue
joined lines mask said = joined_at (position (λ (one : LineValue). same_saying one.1 said) lines) lines mask said

-- ---- the lines

-- the kind, that of a line about what is made in a container, the words of the line, and those of SIDs at its end
abbrev pub BitsForm : Type 0
BitsForm = List ℕ × List ℕ × List ℕ × List ℕ

-- the forms that a constant has
abbrev pub bits : record { now : List ℕ } × record { now : List ℕ } × record { now : List ℕ } × record { now : List ℕ }
    → BitsForm
bits row = (row.0.now, row.1.now, row.2.now, row.3.now)

-- the forms that a parameter has
abbrev pub bits_form : Bor (List ℕ) × Bor (List ℕ) × Bor (List ℕ) × Bor (List ℕ) → BitsForm
bits_form row = (row.0.now, row.1.now, row.2.now, row.3.now)

abbrev pub whom_value : Whom → Value
whom_value Everyone = shown.Text (codes "everyone")
whom_value Nobody = shown.Text (codes "nobody")
whom_value (Sid s) = shown.Sid s
whom_value (Owner s) = shown.Sid s

abbrev pub owner_parts : Whom → List PartOf
owner_parts (Owner s) = word_part AS_THE.now (codes "owner") ∷ []
owner_parts whom = []

abbrev pub sids_parts : List ℕ → List (SidValue × SidMark) → List PartOf
sids_parts form [] = []
sids_parts form (s ∷ ss) = part_of form (shown.Sids (s ∷ ss) ∷ []) ∷ []

-- what a line about what is made in a container begins with
abbrev pub made_part : Descendant → PartOf
made_part made.Object = word_part NEW.now (codes "objects")
made_part made.Container = word_part NEW.now (codes "containers")
made_part made.ObjectBelow = word_part BELOW_NEW.now (codes "objects")
made_part made.ContainerBelow = word_part BELOW_NEW.now (codes "containers")

abbrev pub made_parts : Option Descendant → List PartOf
made_parts None = []
made_parts (Some d) = made_part d ∷ []

-- a line, as `gained 0x2 by S-1-1-0`
abbrev pub bits_line : BitsForm → Option Descendant → LineValue → LineOf
bits_line form made one = line_with (if is_none made then form.0 else form.1)
    (made_parts made ++ part_of form.2 (shown.Mask one.0 ∷ whom_value one.1.0 ∷ []) ∷ owner_parts one.1.0
    ++ sids_parts form.3 one.1.1)

-- the bit is the lowest of the mask
abbrev pub is_lowest : ℕ → ℕ → Bool
is_lowest mask b = trailing_zeros w32 mask == b

-- the lines whose lowest bit is this one
abbrev pub lines_at : BitsForm → Option Descendant → List LineValue → ℕ → List LineOf
lines_at form made lines b =
    flat_map (λ (one : LineValue). if is_lowest one.0 b then bits_line form made one ∷ [] else []) lines

-- the lines whose lowest bit is below n, in order of that bit
unfoldable pub lines_below : BitsForm → Option Descendant → List LineValue → ℕ → List LineOf
lines_below form made lines zero = []
lines_below form made lines (suc k) = lines_below form made lines k ++ lines_at form made lines k

abbrev pub bits_lines : BitsForm → Option Descendant → List LineValue → List LineOf
bits_lines form made lines = lines_below form made lines 32
