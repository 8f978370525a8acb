-- The verdict on each node of a tree of object types, for the whole descriptor that bytes hold and a kept client
-- ([MS-DTYP] 2.5.3.2, ObjectTypeList).
use Rattle.std.specs.Prelude.{◌≡◌, ◌⊎◌, ℕ, nat_lt, List, length, map, Option, Some, None, Result, Ok, Err, IsOk}
use Rattle.std.specs.Prelude.{if◌then◌else◌}
use Rattle.std.specs.List.{list_any}
use Rattle.sd_access.specs.Limits.{may_be_denied}
use Rattle.sd_check.specs.declared.verdict.Verdict.{Verdict}
use Rattle.sd_client.specs.Client.{ClientValue}
use Rattle.sd_types.specs.Tree.{Chain, chains_of, tree_fault}
use Rattle.sd_types.specs.Verdicts.{TreeQuestionValue, tree_verdicts}
use Rattle.sd_types.specs.declared.tree.TreeFault.{TreeFault}
use Rattle.sd_types.specs.declared.tree.TypeNode.{TypeNode}
use Rattle.sd_whole.specs.Reading.{whole_read}
use Rattle.sd_whole.specs.declared.descriptor.WholeDescriptor.{WholeDescriptor}
use Rattle.sd_c.specs.declared.call_answer.CheckAnswer.{CheckAnswer}
use Rattle.sd_c.specs.declared.handle.Handle.{Handle}
use Rattle.sd_c.specs.declared.handle.kept.Kept.{Kept}
use Rattle.sd_c.specs.declared.mapping.Mapping.{Mapping}
use Rattle.sd_c.specs.declared.stop.NotRead.{NotRead}
use Rattle.sd_c.specs.declared.stop.NotRead.TheVariants.{ClientHandle, MayBeDenied, Tree}
use Rattle.sd_c.specs.declared.whole_types.TreeNode.{TreeNode}
use Rattle.sd_c.specs.declared.whole_types.TypeVerdict.{TypeVerdict}
use Rattle.sd_c.specs.CallAnswer.{check_memory, not_read, unread, verdict_given}
use Rattle.sd_c.specs.Kept.{client_in, is_kept}
use Rattle.sd_c.specs.Request.{◌>>=◌}
use Rattle.sd_c.specs.WholeCheck.{TermsValue, of_decision, of_whole, terms_read}
use Rattle.sd_c.specs.Written.{room_with}

-- ---- the arguments beside the descriptor

abbrev pub type_nodes_of : List TreeNode → List TypeNode
type_nodes_of nodes = map (λ node. record { level = node.level; guid = record { bytes = node.guid } }) nodes

abbrev pub tree_or_fault : List TypeNode → Option TreeFault → Result (List Chain) NotRead
tree_or_fault nodes None = Ok (chains_of nodes)
tree_or_fault nodes (Some fault) = Err (Tree fault)

-- the tree of the nodes, or the first one that can't stand where it does
abbrev pub tree_read : List TreeNode → Result (List Chain) NotRead
tree_read nodes = tree_or_fault (type_nodes_of nodes) (tree_fault (type_nodes_of nodes))

abbrev pub tree_question_of : ClientValue → List Chain → TermsValue → ℕ → TreeQuestionValue
tree_question_of c tree terms asked = record {
  client = c;
  tree = tree;
  principal_self = terms.principal_self;
  mapping = terms.mapping;
  asked = asked;
}

-- the client that is kept, then the tree, then the terms
unfoldable pub tree_question_by : Kept → List TreeNode → List ℕ → Mapping → ℕ → Result TreeQuestionValue NotRead
tree_question_by kept nodes principal_self mapping asked =
    client_in kept >>= λ c.
    (tree_read nodes >>= λ tree. (terms_read principal_self mapping >>= λ t. Ok (tree_question_of c tree t asked)))

-- the question of a client's handle
unfoldable pub tree_question_read : Handle → List TreeNode → List ℕ → Mapping → ℕ → Result TreeQuestionValue NotRead
tree_question_read client nodes principal_self mapping asked =
    is_kept client.is_there ClientHandle >>= λ u.
    tree_question_by client.seal.kept nodes principal_self mapping asked

-- the client that a handle keeps
unfoldable pub kept_client : Handle → Result ClientValue NotRead
kept_client client = is_kept client.is_there ClientHandle >>= λ u. client_in client.seal.kept

-- ---- the descriptor, after them

abbrev pub told_of : List Verdict → List TypeVerdict
told_of verdicts =
    map (λ verdict. record { kind = (verdict_given verdict).kind; mask = (verdict_given verdict).mask }) verdicts

-- no verdict stands where an entry of the SACL may deny what one of them grants (2.5.3.3)
abbrev pub told_unless_denied : WholeDescriptor → List Verdict → Result (List TypeVerdict) NotRead
told_unless_denied w verdicts =
    if list_any (λ verdict. may_be_denied verdict w) verdicts then Err MayBeDenied else Ok (told_of verdicts)

-- the verdict on each node, for the whole descriptor that the bytes hold
abbrev pub verdicts_over : List ℕ → Result TreeQuestionValue NotRead → Result (List TypeVerdict) NotRead
verdicts_over bytes question =
    question >>= λ q.
    (of_whole (whole_read bytes) >>= λ w.
    (of_decision (tree_verdicts q w) >>= λ verdicts. told_unless_denied w verdicts))

-- ---- the answer

-- success, or how many verdicts there are if the array has fewer elements
abbrev pub array_answer : List TypeVerdict → List TypeVerdict → CheckAnswer
array_answer told array = if nat_lt (length array) (length told) then unread 2 26 0 (length told) else unread 0 0 0 0

-- the verdicts are at the front of the array, in the order of the nodes, or it is unchanged: too small, or the first
-- argument is refused
abbrev pub Tells : Result (List TypeVerdict) NotRead → List TypeVerdict → List TypeVerdict → CheckAnswer → Type 0
Tells (Ok told) old new answer = (answer ≡ array_answer told old) × (new ≡ room_with told old)
Tells (Err why) old new answer = (answer ≡ not_read why) × (new ≡ old)

-- or memory ran out, which takes a client
abbrev pub AnswersTypes : {C : Type 0} → Result C NotRead → Result (List TypeVerdict) NotRead
    → List TypeVerdict → List TypeVerdict → CheckAnswer → Type 0
AnswersTypes client told old new answer =
    Tells told old new answer ⊎ (IsOk client × (answer ≡ check_memory) × (new ≡ old))
