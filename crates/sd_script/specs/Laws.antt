-- What follows from what the lines of a script are answered by.
use Rattle.std.specs.Prelude.{◌≡◌, ℕ, ◌<◌, Bool, true, false, List, [], ◌∷◌, ◌++◌, length, Some, Ok, codes}
use Rattle.std.specs.List.{All}
use Rattle.std.specs.Str.Lines.{lines}
use Rattle.sd_sid.specs.Mapping.{MappingValue}
use Rattle.sd_sid.specs.Mask.{holds}
use Rattle.sd_sid.specs.Sid.{SidValue}
use Rattle.sd_acl.specs.Descriptor.{DescriptorValue}
use Rattle.sd_acl.specs.declared.ace.AceKind.TheVariants.{Allow}
use Rattle.sd_check.specs.Check.{dacl_entries, is_granted}
use Rattle.sd_check.specs.Token.{TokenValue, a_group_stands_for, no_privileges, stands_for}
use Rattle.sd_check.specs.declared.token.GroupState.{GroupState}
use Rattle.sd_edit.specs.Answers.{answer, reply_in}
use Rattle.sd_path.specs.Names.{Names, is_within}
use Rattle.sd_edit.specs.Plain.{PlainTree, dacl_at, row_at}
use Rattle.sd_edit.specs.declared.node.NodeRow.{NodeRow}
use Rattle.sd_edit.specs.Machine.{Machine, accepted}
use Rattle.sd_edit.specs.declared.request.Request.TheVariants.{Check}
use Rattle.sd_inheritance.specs.declared.kind.NodeKind.TheVariants.{Container}
use Rattle.sd_analysis.specs.Descendants.{descendant_parts, list_of}
use Rattle.sd_analysis.specs.Sufficient.{Parts, entries_or_none}
use Rattle.sd_analysis.specs.declared.descendants.Descendant.{Descendant}
use Rattle.sd_answer.specs.VerdictLines.{verdict_line}
use Rattle.sd_check.specs.declared.verdict.Verdict.TheVariants.{Granted}
use Rattle.sd_line.specs.Line.{LineOf}
use Rattle.sd_answer.specs.Who.{rights_asked}
use Rattle.sd_script.specs.Command.{line_asks}
use Rattle.sd_script.specs.Deletion.{delete_right, granted_by}
use Rattle.sd_script.specs.Expect.{expect_line}
use Rattle.sd_script.specs.Ids.{has_id}
use Rattle.sd_script.specs.Output.{IsAnswered, IsDone}
use Rattle.sd_script.specs.Printed.{IsNextServed, PrintsServed}
use Rattle.sd_script.specs.declared.paths.PathSpelling.{PathSpelling}
use Rattle.sd_script.specs.declared.script_state.ScriptState.{ScriptState}
use Rattle.sd_line.specs.declared.print.Style.{Style}
use Rattle.sd_review.specs.Laws.{AreGrantedAlike}
use Rattle.sd_review.specs.Review.{Trees}
use Rattle.sd_script.specs.Reply.{seen_line}
use Rattle.sd_script.specs.Review.{IsNodeReview, IsReview, reviewed_line}
use Rattle.sd_script.specs.Who.{IsOnly}
use Rattle.sd_script.specs.declared.line_request.LineRequest.{LineRequest}
use Rattle.sd_script.specs.declared.line_request.LineRequest.TheVariants.{Asking, AskingNode, Viewing}
use Rattle.sd_script.specs.declared.script_options.ScriptOptions.{ScriptOptions}
use Rattle.sd_script.specs.declared.script_options.Notation.{Notation}
use Rattle.sd_script.specs.declared.session.Session.{Session}
use Rattle.sd_script.specs.declared.question.NodeQuestion.TheVariants.{Why, Delete}
use Rattle.sd_script.specs.declared.session.Session.TheVariants.{Opened}
use Rattle.sd_script.specs.declared.view.ViewRequest.TheVariants.{Who, Only, Review}

-- what is asked is who is granted a right, or who is by the pending edits: the lines are exact in what they say of
-- tokens, not in their letters
abbrev pub is_analysis : LineRequest → Bool
is_analysis (Viewing (Who path groups asked)) = true
is_analysis (Viewing (Only path groups asked)) = true
is_analysis (Viewing (Review path)) = true
is_analysis asked = false

-- the line asks for no analysis, whatever stands before it
abbrev pub AsksNoAnalysis : List ℕ → Type 0
AsksNoAnalysis line =
    (notation : Notation) (is_open : Bool) (asked : LineRequest) → line_asks notation is_open line (Ok asked)
    → is_analysis asked ≡ false

-- a line leaves one store, and unless it asks for an analysis it has one answer
abbrev pub HasOneAnswer : Type 0
HasOneAnswer =
    (old : Session) (line : List ℕ) (one other : List LineOf) (new next : Session) → IsAnswered old line one new
    → IsAnswered old line other next
    → (AsksNoAnalysis line → one ≡ other) × (new ≡ next)

-- a text whose lines ask for no analysis has one output in a manner
abbrev pub HasOneOutput : Type 0
HasOneOutput =
    (options : ScriptOptions) (text one other : List ℕ) → All AsksNoAnalysis (lines text)
    → PrintsServed false options text one → PrintsServed false options text other → one ≡ other

-- the answer to `why` begins with that to `check`, and after both the store is the same
abbrev pub BeginsAsCheck : Type 0
BeginsAsCheck =
    (notation : Notation) (old : Machine) (reader : ℕ) (path : Names) (token : TokenValue) (asked : ℕ)
    (checked explained : List LineOf) (one other : Session)
    → IsDone (Opened notation old) (Asking (Check reader path token asked)) checked one
    → IsDone (Opened notation old) (AskingNode reader path (Why token asked)) explained other
    → ((reasons : List LineOf) × (explained ≡ checked ++ reasons)) × (other ≡ one)

-- a check of a published tree of so many edits is answered by a grant
abbrev pub IsGranted : ℕ → List LineOf → Type 0
IsGranted len answer = (mask : ℕ) × (answer ≡ seen_line len (verdict_line (Granted mask)) ∷ [])

abbrev pub by_node : ℕ → List LineOf
by_node len = seen_line len (granted_by (codes "node")) ∷ []

-- `delete` is granted by the node just where `check` for DELETE is granted, and leaves the same store
abbrev pub DeletesAsChecked : Type 0
DeletesAsChecked =
    (notation : Notation) (old : Machine) (reader : ℕ) (path : Names) (token : TokenValue)
    (checked deleted : List LineOf) (one other : Session)
    → IsDone (Opened notation old) (Asking (Check reader path token delete_right)) checked one
    → IsDone (Opened notation old) (AskingNode reader path (Delete token)) deleted other
    → (IsGranted (length old.published) checked → deleted ≡ by_node (length old.published))
    × (deleted ≡ by_node (length old.published) → IsGranted (length old.published) checked)
    × (other ≡ one)

-- a node of the new tree for which a review prints no line: no check of it is answered otherwise, whatever the token
-- is. Each bit of a request counts; MAXIMUM_ALLOWED, place 25, is none that is granted
abbrev pub SilentNodeIsUnchanged : Type 0
SilentNodeIsUnchanged =
    (paths : PathSpelling) (ts : Trees) (top path : Names) (row : NodeRow) (token : TokenValue) (asked : ℕ)
    → IsNodeReview paths ts top (path, row) [] → is_within top path ≡ true → row_at ts.new path ≡ Some row
    → holds asked 25 ≡ false
    → reply_in ts.mapping ts.old path token asked ≡ reply_in ts.mapping ts.new path token asked

-- what is made in the node, with the list that it inherits of the node's; CREATOR OWNER and CREATOR GROUP stand for its
-- owner and group
abbrev pub made_in : MappingValue → PlainTree → Names → Descendant → Parts
made_in g t path d = descendant_parts (list_of g d (entries_or_none (dacl_at g t path)))

-- and if it is a container, no bit of what is made in it is granted otherwise
abbrev pub SilentContainerPassesDownTheSame : Type 0
SilentContainerPassesDownTheSame =
    (paths : PathSpelling) (ts : Trees) (top path : Names) (row : NodeRow) (d : Descendant)
    → IsNodeReview paths ts top (path, row) [] → is_within top path ≡ true → row_at ts.new path ≡ Some row
    → row.kind ≡ Container
    → AreGrantedAlike ts.mapping (made_in ts.mapping ts.old path d) (made_in ts.mapping ts.new path d)

-- a review that prints its last line alone: no check at or below its path is
abbrev pub SilentReviewChangesNothing : Type 0
SilentReviewChangesNothing =
    (paths : PathSpelling) (m : Machine) (top path : Names) (token : TokenValue) (asked : ℕ)
    → IsReview paths m top (reviewed_line (length m.published) (length (accepted m)) ∷ [])
    → is_within top path ≡ true → holds asked 25 ≡ false
    → answer m.opening m.published path token asked ≡ answer m.opening (accepted m) path token asked

-- the token has one of these groups, which is enabled there: as its user or an enabled group
abbrev pub HasOneOf : List (SidValue × GroupState) → TokenValue → Type 0
HasOneOf groups t =
    (s : SidValue) × (a_group_stands_for groups Allow s ≡ true) × (stands_for t Allow s ≡ true)

-- where `expect-only` is answered by `ok`, each token without privileges, restricted or not, that the node grants one
-- of the rights has one of the groups
abbrev pub OnlyTheseAreGranted : Type 0
OnlyTheseAreGranted =
    (g : MappingValue) (d : DescriptorValue) (groups : List (SidValue × GroupState)) (t : TokenValue) (asked b : ℕ)
    → IsOnly g (Some d) asked groups (expect_line true ∷ []) → t.privileges ≡ no_privileges → b < 21
    → holds (rights_asked g asked) b ≡ true → is_granted d.owner (dacl_entries d.dacl) g t b ≡ true
    → HasOneOf groups t

-- with ids, a line whose first word is no id changes nothing
abbrev pub NoCommandWithoutAnId : Type 0
NoCommandWithoutAnId = (style : Style) (old new : ScriptState) (line text : List ℕ)
    → has_id line ≡ false → IsNextServed true style old line text new → new.session ≡ old.session
