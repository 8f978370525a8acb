-- What is answered of each node of a tree of object types ([MS-DTYP] 2.5.3.2, ObjectTypeList): a verdict in a line for
-- each, in the order of TREE; or why TREE is none.
use Rattle.std.specs.Prelude.{ℕ, Bool, true, false, not, ◌||◌, if◌then◌else◌, List, [], ◌∷◌, ◌++◌, Result, Ok, Err}
use Rattle.std.specs.Prelude.{codes}
use Rattle.std.specs.List.{list_all, list_any}
use Rattle.sd_access.specs.Limits.{may_be_denied}
use Rattle.sd_check.specs.declared.verdict.Verdict.{Verdict}
use Rattle.sd_check.specs.declared.verdict.Verdict.TheVariants.{Granted}
use Rattle.sd_client.specs.Client.{ClientValue}
use Rattle.sd_line.specs.Line.{LineOf, form, line_of, part_of, with_tail}
use Rattle.sd_line.specs.declared.line.Value.TheVariants as values
use Rattle.sd_answer.specs.VerdictLines.{verdict_line}
use Rattle.sd_answer.specs.declared.forms.TheConstants.{FAULT_NAMED}
use Rattle.sd_specialize.specs.declared.fault.SpecializeFault.{SpecializeFault}
use Rattle.sd_types.specs.Tree.{Chain}
use Rattle.sd_types.specs.Verdicts.{TreeQuestionValue, tree_verdicts}
use Rattle.sd_types.specs.declared.tree.TypeNode.{TypeNode}
use Rattle.sd_whole.specs.declared.descriptor.WholeDescriptor.{WholeDescriptor}
use Rattle.sd_whole_text.specs.Guid.{guid_text}
use Rattle.sd_commands.specs.Answer.{AnswerValue, IsAnswer, IsFault}
use Rattle.sd_commands.specs.Diagnostic.{told_line}
use Rattle.sd_commands.specs.Limits.{sacl_left_out}
use Rattle.sd_commands.specs.Nodes.{nodes_name, nodes_number, told_nodes}
use Rattle.sd_commands.specs.WholeVerdict.{IsUndecided}
use Rattle.sd_commands.specs.declared.command_answer.Outcome.{Outcome}
use Rattle.sd_commands.specs.declared.command_answer.Outcome.TheVariants.{Done, Refused}
use Rattle.sd_commands.specs.declared.forms.TheConstants.{AT_NODE}
use Rattle.sd_commands.specs.declared.nodes.NodesFault.{NodesFault}
use Rattle.sd_commands.specs.declared.settings.Settings.{Settings}

-- ---- the question

-- nodes, and the tree that they are
pub record NodesValue : Type 0 where
  pub nodes : List TypeNode
  pub tree : List Chain

abbrev pub tree_question : Settings → ClientValue → List Chain → ℕ → TreeQuestionValue
tree_question settings client tree asked = record {
  client = client;
  tree = tree;
  principal_self = settings.principal_self;
  mapping = settings.mapping;
  asked = asked;
}

-- ---- the lines

-- a verdict, and on which node
abbrev pub node_line : Verdict → TypeNode → LineOf
node_line verdict node = with_tail
    (part_of AT_NODE.now (values.Number node.level ∷ values.Text (guid_text node.guid) ∷ [])) (verdict_line verdict)

-- each of the verdicts, on the node in its place
abbrev pub node_lines : List Verdict → List TypeNode → List LineOf
node_lines [] nodes = []
node_lines (verdict ∷ verdicts) [] = []
node_lines (verdict ∷ verdicts) (node ∷ nodes) = node_line verdict node ∷ node_lines verdicts nodes

-- ---- the answer

abbrev pub is_granted : Verdict → Bool
is_granted (Granted mask) = true
is_granted verdict = false

-- the rest of the SACL may deny what is granted on a node
abbrev pub some_may_be_denied : WholeDescriptor → List Verdict → Bool
some_may_be_denied d verdicts = list_any (λ verdict. may_be_denied verdict d) verdicts

-- what was asked for is granted on each node, and nothing may deny it
abbrev pub nodes_outcome : WholeDescriptor → List Verdict → Outcome
nodes_outcome d verdicts =
    if not (list_all is_granted verdicts) || some_may_be_denied d verdicts then Refused else Done

-- the verdict on each node, and whether the rest of the SACL is left out; or which entry can't be decided
abbrev pub AnswersNodes : WholeDescriptor → List TypeNode → Result (List Verdict) SpecializeFault → AnswerValue → Type 0
AnswersNodes d nodes (Ok verdicts) =
    IsAnswer (node_lines verdicts nodes ++ sacl_left_out (some_may_be_denied d verdicts)) [] (nodes_outcome d verdicts)
AnswersNodes d nodes (Err fault) = IsUndecided (codes "SDDL") fault

abbrev pub AreNodeVerdicts : Settings → NodesValue → WholeDescriptor → ClientValue → ℕ → AnswerValue → Type 0
AreNodeVerdicts settings asked_about d client asked =
    AnswersNodes d asked_about.nodes (tree_verdicts (tree_question settings client asked_about.tree asked) d)

-- ---- TREE

-- the line of a fault of TREE
abbrev pub nodes_fault_line : NodesFault → LineOf
nodes_fault_line fault = line_of (form FAULT_NAMED) (values.Text (codes "tree")
    ∷ values.Number (nodes_number fault) ∷ values.Text (nodes_name fault) ∷ [])

abbrev pub IsTreeFault : NodesFault → AnswerValue → Type 0
IsTreeFault fault = IsFault (nodes_fault_line fault) (told_line (codes "TREE") (told_nodes fault))

-- what is answered of the nodes of the tree that was found, or of its fault
abbrev pub AnswersOfTree : Result (List TypeNode) NodesFault → (List TypeNode → AnswerValue → Type 0) → AnswerValue
    → Type 0
AnswersOfTree (Ok nodes) Answers = Answers nodes
AnswersOfTree (Err fault) Answers = IsTreeFault fault
