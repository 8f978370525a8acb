-- What a reader asks about the node of a path, and the answer: by the published tree, at one moment.
use Rattle.std.specs.Prelude.{◌≡◌, ℕ, nat_lt, List, [], ◌∷◌, length, if◌then◌else◌}
use Rattle.sd_edit.specs.Answers.{answer, descriptor_at}
use Rattle.sd_path.specs.Names.{Names}
use Rattle.sd_edit.specs.Journal.{replay}
use Rattle.sd_edit.specs.Machine.{Machine, with_look}
use Rattle.sd_answer.specs.declared.forms.TheConstants.{FOUND, NO_NODE, NO_READER}
use Rattle.sd_line.specs.Line.{LineOf, form}
use Rattle.sd_script.specs.Deletion.{delete_right, deletion_line, parent_grants}
use Rattle.sd_script.specs.Listing.{nodes_lines}
use Rattle.sd_script.specs.Reply.{node_why_lines, plain_line, seen_line, seen_lines}
use Rattle.sd_script.specs.declared.script_options.Notation.{Notation}
use Rattle.sd_script.specs.declared.question.NodeQuestion.{NodeQuestion}
use Rattle.sd_script.specs.declared.question.NodeQuestion.TheVariants.{Why, Find, Delete}
use Rattle.sd_script.specs.declared.session.Session.{Session}
use Rattle.sd_script.specs.declared.session.Session.TheVariants.{Opened}

abbrev pub question_lines : Notation → Machine → Names → NodeQuestion → List LineOf
question_lines notation m path (Why token asked) =
    seen_lines (length m.published) (node_why_lines m.opening.mapping token asked
    (descriptor_at m.opening.mapping (replay m.opening m.published) path))
question_lines notation m path (Find which) =
    nodes_lines notation.paths m.opening m.published path which
    (seen_line (length m.published) (plain_line (form NO_NODE)))
    (seen_line (length m.published) (plain_line (form FOUND)) ∷ [])
question_lines notation m path (Delete token) =
    seen_line (length m.published) (deletion_line (answer m.opening m.published path token delete_right)
    (parent_grants m.opening m.published path token)) ∷ []

-- this, where there is such a reader; and the answer where there is none, which changes nothing
abbrev pub for_reader : Machine → ℕ → List LineOf × Machine → List LineOf × Machine
for_reader m reader there =
    if nat_lt reader (length m.floors) then there else (plain_line (form NO_READER) ∷ [], m)

-- the answer to a reader that asks, and the store then: the reader has seen the published tree
abbrev pub outcome_of : Notation → Machine → ℕ → Names → NodeQuestion → List LineOf × Machine
outcome_of notation m reader path question =
    for_reader m reader (question_lines notation m path question, with_look m reader)

abbrev pub IsSeen : Notation → Machine → ℕ → Names → NodeQuestion → List LineOf → Session → Type 0
IsSeen notation old reader path question told new =
    (told ≡ (outcome_of notation old reader path question).0)
    × (new ≡ Opened notation (outcome_of notation old reader path question).1)
