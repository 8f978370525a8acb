-- What a script sees of the store at once, and no reader asks for.
use Rattle.std.specs.Prelude.{◌≡◌, List, []}
use Rattle.sd_edit.specs.Answers.{descriptor_at}
use Rattle.sd_edit.specs.Journal.{replay}
use Rattle.sd_edit.specs.Machine.{Machine}
use Rattle.sd_script.specs.Dump.{IsDump}
use Rattle.sd_script.specs.Listing.{nodes_lines}
use Rattle.sd_answer.specs.declared.forms.TheConstants.{NO_NODE}
use Rattle.sd_line.specs.Line.{LineOf, form}
use Rattle.sd_script.specs.Reply.{plain_line}
use Rattle.sd_script.specs.Review.{IsReview}
use Rattle.sd_script.specs.Who.{IsOnly, IsWhoAnswer}
use Rattle.sd_script.specs.declared.listing.NodeFilter.TheVariants.{All}
use Rattle.sd_script.specs.declared.script_options.Notation.{Notation}
use Rattle.sd_script.specs.declared.view.ViewRequest.{ViewRequest}
use Rattle.sd_script.specs.declared.view.ViewRequest.TheVariants.{List as Lists, Dump, Who, Only, Review}

abbrev pub IsViewed : Notation → Machine → ViewRequest → List LineOf → Type 0
IsViewed notation m (Lists path) answer =
    answer ≡ nodes_lines notation.paths m.opening m.published path All (plain_line (form NO_NODE)) []
IsViewed notation m Dump answer = IsDump notation m answer
IsViewed notation m (Who path groups asked) answer = IsWhoAnswer m.opening.mapping
    (descriptor_at m.opening.mapping (replay m.opening m.published) path) asked groups answer
IsViewed notation m (Only path groups asked) answer =
    IsOnly m.opening.mapping (descriptor_at m.opening.mapping (replay m.opening m.published) path) asked groups answer
IsViewed notation m (Review path) answer = IsReview notation.paths m path answer
