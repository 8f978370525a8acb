use Rattle.std.proofs.Common.{◌∙◌, arith}
use Rattle.sd_tree.proofs.Listed.{listed_here, listed_past}
use Rattle.sd_tree.proofs.tree.Tree.node.Goals as goal

pub returns-then-index-len : goal.returns-then-index-len
returns-then-index-len c =
    let v = c.view.result in
    listed_past v.nodes.now c.view.ensures.standing.kept.order _ c.view.ensures.tree c.args.index (omega (arith, c.len.ensures, c.if-index-len.true))

pub returns : goal.returns
returns c =
    let v = c.view.result in
    let n = c.node_in-node.result.now in
    listed_here v.nodes.now c.view.ensures.standing.kept.order _ c.view.ensures.tree c.args.index (omega (arith, c.len.ensures, c.if-index-len.false)) n (c.node_in-node.ensures n) _
    (λ i. (c.stored_path.ensures i, (c.row.view_is ∙ c.row-row.ensures) i))
