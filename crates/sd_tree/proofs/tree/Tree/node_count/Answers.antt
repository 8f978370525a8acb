use Rattle.sd_tree.proofs.Cited.{ap, len, sym, ◌∙◌}
use Rattle.sd_tree.proofs.Fitting.{nodes_count}
use Rattle.sd_tree.proofs.tree.Tree.node_count.Goals as goal

-- src/listing.rt:25:5
pub returns : goal.returns
returns c =
    let v = c.view.result in
    c.len.ensures ∙ sym (nodes_count v.nodes.now v.mapping.now c.view.ensures.standing.kept) ∙ ap len c.view.ensures.tree
