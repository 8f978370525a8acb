use Rattle.sd_tree.proofs.Cited.{ap, arith, len, length, tree_of, ◌∙◌}
use Rattle.sd_tree.proofs.Fitting.{nodes_count, room_full, room_left}
use Rattle.sd_tree.proofs.tree_view.TreeView.room_refusal.Goals as goal

pub returns-then-len-most : goal.returns-then-len-most
returns-then-len-most c =
    let deep = c.depth.ensures ∙ ap length c.as_path_ref.ensures in
    let count = nodes_count c.args.self.now.nodes.now c.args.self.now.mapping.now c.requires.kept in
    room_full c.args.most (length c.args.path.now) (len (tree_of c.args.self.now.nodes.now)) _ _ (omega (arith, deep, c.if-depth-gt-MAX_DEPTH.false)) (omega (arith, count, c.len.ensures, c.if-len-most.true))

pub returns : goal.returns
returns c =
    let deep = c.depth.ensures ∙ ap length c.as_path_ref.ensures in
    let count = nodes_count c.args.self.now.nodes.now c.args.self.now.mapping.now c.requires.kept in
    room_left c.args.most (length c.args.path.now) (len (tree_of c.args.self.now.nodes.now)) _ _ (omega (arith, deep, c.if-depth-gt-MAX_DEPTH.false)) (omega (arith, count, c.len.ensures, c.if-len-most.false))
