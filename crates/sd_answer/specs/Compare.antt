-- What `compare` answers of the rights that tokens gain and those that they lose, each with a token that shows it.
use Rattle.std.specs.Prelude.{◌||◌, if◌then◌else◌, List, ◌++◌, map, Option}
use Rattle.std.specs.Option.{option_to_list}
use Rattle.sd_sid.specs.Sid.{SidValue}
use Rattle.sd_analysis.specs.Sufficient.{Parts, is_named, restricting_of}
use Rattle.sd_analysis.specs.declared.compare_report.Change.{Change}
use Rattle.sd_analysis.specs.declared.descendants.Descendant.{Descendant}
use Rattle.sd_analysis.specs.declared.witness.Witness.{Witness}
use Rattle.sd_line.specs.Line.{LineOf}
use Rattle.sd_line.specs.declared.line.SidMark.{SidMark}
use Rattle.sd_line.specs.declared.line.SidMark.TheVariants.{Deny, Restrict}
use Rattle.sd_answer.specs.Lines.{BitsForm, LineValue, Saying, bits, bits_lines}
use Rattle.sd_answer.specs.declared.forms.TheConstants.{GAINED, LOST}
use Rattle.sd_answer.specs.declared.lines.Whom.{Whom}
use Rattle.sd_answer.specs.declared.lines.Whom.TheVariants.{Everyone, Sid}

-- the user: everyone, where neither descriptor names it
abbrev pub user_whom : Parts → Parts → SidValue → Whom
user_whom old new s = if is_named old s || is_named new s then Sid s else Everyone

abbrev pub marked : SidMark → List SidValue → List (SidValue × SidMark)
marked mark sids = map (λ s. (s, mark)) sids

-- the token beside the base: its user, a group for denies alone, and restricting SIDs
abbrev pub witness_saying : Parts → Parts → Witness → Saying
witness_saying old new w = (
  user_whom old new w.first.allowed,
  marked Deny (option_to_list w.first.denied) ++ marked Restrict (restricting_of w.second),
)

abbrev pub change_line : Parts → Parts → Change → LineValue
change_line old new change = (change.mask, witness_saying old new change.witness)

abbrev pub changes_lines : BitsForm → Option Descendant → Parts → Parts → List Change → List LineOf
changes_lines form made old new changes = bits_lines form made (map (change_line old new) changes)

-- the lines of gains and of losses, of an object or of what is made in it
abbrev pub gains_and_losses : Option Descendant → Parts → Parts → List Change → List Change → List LineOf
gains_and_losses made old new gained lost =
    changes_lines (bits GAINED) made old new gained ++ changes_lines (bits LOST) made old new lost
