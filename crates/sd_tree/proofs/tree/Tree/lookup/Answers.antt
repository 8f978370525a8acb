use Rattle.sd_tree.proofs.Cited.{ap, kind_at, tree_of, ◌∙◌}
use Rattle.sd_tree.proofs.tree.Tree.lookup.Goals as goal

pub returns : goal.returns
returns c = c.kind_at.ensures ∙ ap (kind_at (tree_of c.view.result.nodes.now)) c.as_path_ref.ensures ∙ ap (λ t. kind_at t c.args.path.now) c.view.ensures.tree
