-- The verdicts on the nodes of the tree that was found.
use Rattle.std.proofs.Common.{List, Ok, Err, Result, Some, ap, drop, subst, ℕ, ◌∙◌, ◌≡◌}
use Rattle.std.proofs.lemmas.Result.{IfOk-weaker}
use Rattle.std.specs.Prelude.{IfOk}
use Rattle.std.specs.Borrow.{Bor}
use Rattle.std.specs.declared.alloc.AllocError.{AllocError}
use Rattle.sd_types.specs.Tree.{chains_in, chains_of}
use Rattle.sd_types.specs.declared.tree.TypeNode.{TypeNode}
use Rattle.sd_whole.specs.declared.descriptor.WholeDescriptor.{WholeDescriptor}
use Rattle.sd_commands.specs.Answer.{answer_of}
use Rattle.sd_commands.specs.CommandAnswer.{AnswersUser, Whole, nodes_value}
use Rattle.sd_commands.specs.Nodes.{Finds, HasNodes, tree_in}
use Rattle.sd_commands.specs.Types.{AnswersOfTree, NodesValue}
use Rattle.sd_commands.specs.declared.command_answer.Answer.{Answer}
use Rattle.sd_commands.specs.declared.nodes.NodesAsked.{NodesAsked}
use Rattle.sd_commands.specs.declared.nodes.NodesFault.{NodesFault}
use Rattle.sd_commands.specs.declared.settings.Settings.{Settings}
use Rattle.sd_commands.specs.declared.verdict.Form.TheVariants.{Short}
use Rattle.sd_commands.proofs.settings.CommandContext.types_on_tree.Goals as goal

-- nodes with the tree that they are
value_of : List TypeNode → NodesValue
value_of nodes = record { nodes = nodes; tree = chains_of nodes }

same_value : (asked : NodesAsked) (nodes : List TypeNode) → HasNodes asked nodes → nodes_value asked ≡ value_of nodes
unfolding value_of
same_value asked nodes has =
    ap (λ (n : List TypeNode). record { nodes = n; tree = chains_in asked.tree }) has.0 ∙ ap (λ t. record { nodes = nodes; tree = t }) has.1

on_tree : (settings : Settings) (arguments : List (Bor (List ℕ))) (d : WholeDescriptor) (asked : NodesAsked) (found : Result (List TypeNode) NodesFault)
    (answer : Result Answer AllocError) → Finds HasNodes (Ok asked) found
    → IfOk answer (λ a. AnswersUser settings Short arguments (Whole d (Some (nodes_value asked))) (answer_of a))
    → IfOk answer (λ a. AnswersOfTree found (λ nodes. AnswersUser settings Short arguments (Whole d (Some (value_of nodes)))) (answer_of a))
on_tree settings arguments d asked (Ok nodes) answer has says =
    IfOk-weaker answer _ _ (λ a told. subst (λ v. AnswersUser settings Short arguments (Whole d (Some v)) (answer_of a)) (same_value asked nodes has) told) says
on_tree settings arguments d asked (Err fault) answer has says = absurd has

pub returns-in-Ok : goal.returns-in-Ok
unfolding value_of
returns-in-Ok c =
    let settings = c.args.self.now.settings.now in
    let d = c.args.descriptor.now in
    on_tree settings (drop 1 c.args.arguments.now) d c.in-Ok.asked _ c.verdict.result
    (subst (λ text. Finds HasNodes (Ok c.in-Ok.asked) (tree_in text)) c.argument-tree.ensures c.in-Ok.ensures)
    (subst (λ rest. IfOk c.verdict.result (λ a. AnswersUser settings Short rest (Whole d (Some (nodes_value c.in-Ok.asked))) (answer_of a))) c.items_from.ensures.rest c.verdict.ensures)
