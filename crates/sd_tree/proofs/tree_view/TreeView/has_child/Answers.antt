use Rattle.sd_tree.proofs.Cited.{Node, ap, arith, is_within, sym, ◌∙◌}
use Rattle.sd_tree.proofs.Children.{childless_last, next_tells}
use Rattle.sd_tree.proofs.Kept.{a_node}
use Rattle.sd_tree.proofs.tree_view.TreeView.has_child.Goals as goal

pub returns-then-at-count : goal.returns-then-at-count
returns-then-at-count c =
    let bs = c.args.self.now.nodes.now in
    sym (childless_last c.args.self.now.mapping.now bs c.requires.standing c.args.path.now c.args.at c.requires.within c.requires.stands (c.if-at-count.true ∙ c.len-count.ensures) (a_node bs c.args.at c.requires.within))

pub returns : goal.returns
returns c =
    let bs = c.args.self.now.nodes.now in
    let path-is = c.path.ensures ∙ ap (λ (n : Node). n.path) (c.node.ensures c.node.result.now) in
    c.is_within.ensures ∙ ap (is_within c.args.path.now) path-is
    ∙ next_tells c.args.self.now.mapping.now bs c.requires.standing c.args.path.now c.args.at c.requires.within c.requires.stands c.node.result.now (omega arith)
