-- Lines about a person: the person stands at the end of each, and is named there anyway.
use Rattle.std.specs.Prelude.{ℕ, Bool, true, false, List, [], ◌∷◌}
use Rattle.std.specs.List.{list_any}
use Rattle.sd_sid.specs.Sid.{SidValue}
use Rattle.sd_line.specs.Line.{LineOf, PartOf, form, is_of, line_of, part_of}
use Rattle.sd_line.specs.declared.line.Value.TheVariants.{Sid, Text}
use Rattle.sd_answer.specs.declared.forms.TheConstants.{LABEL_ALONE}
use Rattle.sd_commands.specs.Escaped.{escaped}

-- a user, with a name of it
abbrev pub User : Type 0
User = SidValue × List ℕ

-- a line, and the part about whom it is
abbrev pub Told : Type 0
Told = LineOf × PartOf

-- whom a line is about, with what a name hides shown by its number
abbrev pub person : (form : List ℕ) → User → PartOf
person form user = part_of form (Sid user.0 ∷ Text (escaped user.1) ∷ [])

-- what else of a SACL may deny was left out
abbrev pub leaves_out : List LineOf → Bool
leaves_out lines = list_any (is_of LABEL_ALONE.0.now) lines

abbrev pub left_out : Bool → List LineOf
left_out true = line_of (form LABEL_ALONE) [] ∷ []
left_out false = []
