use Rattle.sd_tree.proofs.Cited.{Node, [], add-zero, ap, arith, err_from_is_err_and, get_or, length, parent_there, path_of_node, sym, tree_of, up, ◌++◌, ◌+◌, ◌-◌, ◌∙◌, ◌∷◌, ◌≡◌}
use Rattle.std.proofs.Common.{length-append}
use Rattle.sd_tree.proofs.Kept.{row_here}
use Rattle.sd_tree.proofs.Rebuilding.{parent_place}
use Rattle.sd_tree.proofs.Under.{under_first, IsNext, next_stays, next_made, next_error, next_more, stays_more}
use Rattle.sd_tree.proofs.tree_view.TreeView.subtree.Goals as goal

pub loop-k-init : goal.loop-k-init
loop-k-init c =
    let bs = c.args.self.now.nodes.now in
    let one : c.push.new.self.items ≡ c.args.first ∷ [] = c.in_ok-push.ensures.items ∙ ap (λ xs. xs ++ c.args.first ∷ []) c.in_ok-run.ensures.items in
    let back : c.args.at ≡ c.args.at + 1 - 1 = omega arith in
    record {
      within = c.requires.within;
      node = c.node-old.ensures;
      before = λ n. c.node-old.ensures n ∙ ap (λ j. get_or bs j n) back;
      walk = c.new-walk.ensures;
      count = omega (arith, ap length one);
      under = rw one (under_first c.args.self.now.mapping.now bs c.args.path.now c.args.at c.requires.stands c.args.first c.requires.first c.requires.fits);
      stay = λ same. rw one (λ j b d lt.
          let first : j ≡ 0 = omega arith in
          ap (λ i. (get_or (c.args.first ∷ []) i d).whole) first ∙ c.have_one_dacl-stays.ensures same
          ∙ ap (λ (n : Node). n.whole) (c.node-old.ensures b) ∙ ap (λ i. (get_or bs i b).whole) (sym (add-zero c.args.at) ∙ ap (λ i. c.args.at + i) (sym first)));
    }

pub node_near-parent-requires-clause-there : goal.node_near-parent-requires-clause-there
node_near-parent-requires-clause-there c =
    let bs = c.args.self.now.nodes.now in
    let b = c.node-node.result.now in
    let k = c.loop-k.k in
    let node = c.node-node.ensures.node b ∙ ap (λ w. get_or w k b) c.loop-k.invariant.walk in
    rw (c.parent.ensures ∙ ap up (c.path.ensures ∙ ap path_of_node node))
    (parent_there (tree_of bs) c.requires.standing.closed (path_of_node (get_or bs k b)) (get_or bs k b).row (row_here bs c.requires.standing.kept.order k b (omega (arith, c.end_below-end.ensures.place.1))))

pub overflow_sub-parent : goal.overflow_sub-parent
overflow_sub-parent c =
    let bs = c.args.self.now.nodes.now in
    let b = c.node-node.result.now in
    let k = c.loop-k.k in
    let node = c.node-node.ensures.node b ∙ ap (λ w. get_or w k b) c.loop-k.invariant.walk in
    (parent_place bs c.requires.standing.kept.order c.args.path.now c.args.at c.requires.stands k b (omega arith) (omega (arith, c.end_below-end.ensures.place.1))
    (c.end_below-end.ensures.below k b (omega arith) (omega arith)) c.node_near-parent.result.0 c.node_near-parent.ensures.within
    (λ d. c.node_near-parent.ensures.stands d ∙ c.parent.ensures ∙ ap up (c.path.ensures ∙ ap path_of_node node))).0

pub index-above-requires : goal.index-above-requires
index-above-requires c =
    let bs = c.args.self.now.nodes.now in
    let b = c.node-node.result.now in
    let k = c.loop-k.k in
    let node = c.node-node.ensures.node b ∙ ap (λ w. get_or w k b) c.loop-k.invariant.walk in
    let place = parent_place bs c.requires.standing.kept.order c.args.path.now c.args.at c.requires.stands k b (omega arith) (omega (arith, c.end_below-end.ensures.place.1))
    (c.end_below-end.ensures.below k b (omega arith) (omega arith)) c.node_near-parent.result.0 c.node_near-parent.ensures.within
    (λ d. c.node_near-parent.ensures.stands d ∙ c.parent.ensures ∙ ap up (c.path.ensures ∙ ap path_of_node node)) in
    omega (arith, place.0, place.1, c.loop-k.invariant.count, c.loop-k.run.ok.0)

next : (c : goal.After-deref) → IsNext c.args.self.now.mapping.now c.args.self.now.nodes.now c.args.path.now c.args.at c.args.first c.loop-k.run.items c.loop-k.k c.node_near-parent.result.0 c.node-node.result.now c.index-above.result.now
next c =
    let b = c.node-node.result.now in
    let node : (n : Node) → b ≡ get_or c.args.self.now.nodes.now c.loop-k.k n = λ n. c.node-node.ensures.node n ∙ ap (λ w. get_or w c.loop-k.k n) c.loop-k.invariant.walk in
    record {
      standing = c.requires.standing;
      stands = c.requires.stands;
      under = c.loop-k.invariant.under;
      count = c.loop-k.invariant.count;
      behind = omega arith;
      in_bs = omega (arith, c.end_below-end.ensures.place.1);
      node = node;
      inside = c.end_below-end.ensures.below c.loop-k.k b (omega arith) (omega arith);
      in_p = c.node_near-parent.ensures.within;
      there = λ d. c.node_near-parent.ensures.stands d ∙ c.parent.ensures ∙ ap up c.path.ensures;
      above_is = c.index-above.ensures;
    }

pub node_in_run-requires-clause-stays : goal.node_in_run-requires-clause-stays
node_in_run-requires-clause-stays c same =
    next_stays c.args.self.now.mapping.now c.args.self.now.nodes.now c.args.path.now c.args.at c.args.first c.loop-k.run.items c.loop-k.k c.node_near-parent.result.0
    c.node-node.result.now c.index-above.result.now (next c) (c.loop-k.invariant.stay same)

pub node_in_run-requires-clause-fits : goal.node_in_run-requires-clause-fits
node_in_run-requires-clause-fits c =
    let b = c.node-node.result.now in
    rw ((next c).node b) (c.requires.standing.kept.whole c.loop-k.k b (next c).in_bs).fits

pub node_in_run-requires-clause-made : goal.node_in_run-requires-clause-made
node_in_run-requires-clause-made c =
    rw c.deref.ensures.value (next_made c.args.self.now.mapping.now c.args.self.now.nodes.now c.args.path.now c.args.at c.args.first c.loop-k.run.items c.loop-k.k c.node_near-parent.result.0
    c.node-node.result.now c.index-above.result.now (next c) c.end_below-end.result c.end_below-end.ensures.below (omega arith))

pub returns-in_err-next-clause-refused : goal.returns-in_err-next-clause-refused
returns-in_err-next-clause-refused c =
    let p = err_from_is_err_and c.from_residual-in_err-next.result c.from_residual-in_err-next.ensures.1 in
    let b = c.node-node.result.now in
    let node : (n : Node) → b ≡ get_or c.args.self.now.nodes.now c.loop-k.k n = λ n. c.node-node.ensures.node n ∙ ap (λ w. get_or w c.loop-k.k n) c.loop-k.invariant.walk in
    let next : IsNext c.args.self.now.mapping.now c.args.self.now.nodes.now c.args.path.now c.args.at c.args.first c.loop-k.run.items c.loop-k.k c.node_near-parent.result.0 c.node-node.result.now c.index-above.result.now = record {
      standing = c.requires.standing;
      stands = c.requires.stands;
      under = c.loop-k.invariant.under;
      count = c.loop-k.invariant.count;
      behind = omega arith;
      in_bs = omega (arith, c.end_below-end.ensures.place.1);
      node = node;
      inside = c.end_below-end.ensures.below c.loop-k.k b (omega arith) (omega arith);
      in_p = c.node_near-parent.ensures.within;
      there = λ d. c.node_near-parent.ensures.stands d ∙ c.parent.ensures ∙ ap up c.path.ensures;
      above_is = c.index-above.ensures;
    } in
    rw (p.1, p.2) (next_error c.args.self.now.mapping.now c.args.self.now.nodes.now c.args.path.now c.args.at c.args.first c.loop-k.run.items c.loop-k.k c.node_near-parent.result.0
    c.node-node.result.now c.index-above.result.now next c.in_err-next.field-0.0 c.in_err-next.ensures.refused)

pub loop-k-preserved : goal.loop-k-preserved
loop-k-preserved c =
    let bs = c.args.self.now.nodes.now in
    let run = c.loop-k.run.items in
    let i = c.loop-k.invariant in
    let new = c.in_ok-next.next in
    let is = c.in_ok-next.ensures.node in
    let back : c.loop-k.k ≡ c.loop-k.k + 1 - 1 = omega arith in
    let size = length-append run (new ∷ []) in
    let b = c.node-node.result.now in
    let node : (n : Node) → b ≡ get_or c.args.self.now.nodes.now c.loop-k.k n = λ n. c.node-node.ensures.node n ∙ ap (λ w. get_or w c.loop-k.k n) c.loop-k.invariant.walk in
    let next : IsNext c.args.self.now.mapping.now c.args.self.now.nodes.now c.args.path.now c.args.at c.args.first c.loop-k.run.items c.loop-k.k c.node_near-parent.result.0 c.node-node.result.now c.index-above.result.now = record {
      standing = c.requires.standing;
      stands = c.requires.stands;
      under = c.loop-k.invariant.under;
      count = c.loop-k.invariant.count;
      behind = omega arith;
      in_bs = omega (arith, c.end_below-end.ensures.place.1);
      node = node;
      inside = c.end_below-end.ensures.below c.loop-k.k b (omega arith) (omega arith);
      in_p = c.node_near-parent.ensures.within;
      there = λ d. c.node_near-parent.ensures.stands d ∙ c.parent.ensures ∙ ap up c.path.ensures;
      above_is = c.index-above.ensures;
    } in
    let more = next_more c.args.self.now.mapping.now bs c.args.path.now c.args.at c.args.first run c.loop-k.k c.node_near-parent.result.0 c.node-node.result.now c.index-above.result.now next
    new (ap path_of_node is) (ap (λ (m : Node). m.row) is) (ap (λ (m : Node). m.whole) is) c.in_ok-next.ensures.fits in
    record {
      within = c.node_near-parent.ensures.within;
      node = c.node_near-parent.ensures.node;
      before = λ n. next.node n ∙ ap (λ j. get_or bs j n) back;
      walk = c.node-node.ensures.same ∙ i.walk;
      count = omega (arith, i.count, ap length c.in_ok-push-2.ensures.items, size);
      under = rw c.in_ok-push-2.ensures.items more;
      stay = λ same. rw c.in_ok-push-2.ensures.items (stays_more bs c.args.at run new (i.stay same) (λ n.
          ap (λ (m : Node). m.whole) is
          ∙ sym (next_stays c.args.self.now.mapping.now bs c.args.path.now c.args.at c.args.first run c.loop-k.k c.node_near-parent.result.0 c.node-node.result.now c.index-above.result.now next (i.stay same))
          ∙ ap (λ (m : Node). m.whole) (next.node n) ∙ ap (λ j. (get_or bs j n).whole) (sym i.count)));
    }
