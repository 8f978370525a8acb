use Rattle.sd_tree.proofs.Cited.{All-push, Node, [], ap, arith, get_or, is_within, length, map, map-append, moved_path, path_of_node, relocated, sym, take, take_more, true, ◌++◌, ◌∙◌, ◌∷◌, ◌≡◌, ◌≤◌}
use Rattle.sd_tree.proofs.Moves.{moved_length}
use Rattle.sd_tree.proofs.moving.relocated.Goals as goal

pub overflow_sub-below : goal.overflow_sub-below
overflow_sub-below c =
    let n = c.node-item.result in
    let inside : is_within c.args.source.now n.path ≡ true = ap (λ (m : Node). is_within c.args.source.now m.path) c.node-item.is ∙ c.requires c.loop-node.node-index n c.loop-node-test.true in
    omega (arith, c.depth.ensures, c.depth-in-loop-node.ensures, ap length c.path.ensures, (moved_length c.args.source.now c.args.target.now n.path inside).1)

pub loop-node-preserved : goal.loop-node-preserved
loop-node-preserved c =
    let n = c.node-item.result in
    let i = c.loop-node.node-index in
    let f = relocated c.args.source.now c.args.target.now in
    let new = c.in_ok-next.next in
    let inside : is_within c.args.source.now n.path ≡ true = ap (λ (m : Node). is_within c.args.source.now m.path) c.node-item.is ∙ c.requires i n c.loop-node-test.true in
    let path-is : c.in_ok-path.path ≡ moved_path c.args.source.now c.args.target.now n.path = c.in_ok-path.ensures ∙ ap (moved_path c.args.source.now c.args.target.now) c.stored_path.ensures in
    let new-is : new ≡ f (get_or c.args.nodes.now i n) = c.in_ok-next.ensures ∙ ap (λ path. record n { path = path }) path-is ∙ ap f c.node-item.is in
    let size = moved_length c.args.source.now c.args.target.now n.path inside in
    let short : length new.path ≤ 64 =
    omega (arith, size.0, size.1, ap length (ap path_of_node c.in_ok-next.ensures ∙ path-is), c.depth.ensures, c.depth-in-loop-node.ensures, c.depth-in-loop-node-2.ensures, ap length c.path.ensures, c.saturating_add.ensures, c.if-saturating_add-gt-MAX_DEPTH.false) in
    record {
      run =
          c.in_ok-push.ensures.items ∙ (λ t. c.loop-node.invariant.run t ++ new-is t ∷ [])
          ∙ sym (map-append f (take i c.args.nodes.now) (get_or c.args.nodes.now i n ∷ []))
          ∙ ap (map f) (sym (take_more c.args.nodes.now i n c.loop-node-test.true));
      short = rw c.in_ok-push.ensures.items (All-push (λ (m : Node). length m.path ≤ 64) c.loop-node.run.items new c.loop-node.invariant.short short);
    }
