use Rattle.sd_tree.proofs.Cited.{Ace, List, MappingValue, Names, Node, None, Option, Some, ap, arith, dacl_at, err_from_is_err_and, get_or, inl, inr, insert, is_within, length, length-map, moved, path_of_node, sym, tree_of, whole_with, ◌+◌, ◌-◌, ◌<◌, ◌∙◌, ◌≡◌}
use Rattle.sd_tree.proofs.Moves.{first_refused, is_moved, gap_behind, plan_moved, deep_refused, none_too_deep, large_late}
use Rattle.sd_tree.proofs.Rebuilding.{row_there}
use Rattle.sd_tree.proofs.NewNode.{size_error}
use Rattle.sd_tree.proofs.tree_view.TreeView.moving_plan.Goals.{then-at-from, else-at-from}
use Rattle.sd_tree.proofs.tree_view.TreeView.moving_plan.Goals as goal

not_both : {X : Type 0} (o : Option X) (x : X) → o ≡ None → o ≡ Some x → ⊥
not_both o x none some = let e : None ≡ Some x = sym none ∙ some in absurd cc

pub unreachable-requires : goal.unreachable-requires
unreachable-requires c =
    let found = c.in-Ok.ensures.found in
    let there = row_there c.args.self.now.nodes.now c.requires.standing.kept.order c.args.target.now c.in-Ok.field-0 found.0 (λ d. found.1 d ∙ c.as_path_ref-target.ensures) in
    not_both _ _ c.requires.movable.place.free there.1

moved_whole : (g : MappingValue) (bs : List Node) (target : Names) (node first : Node) (inherited : List Ace) → first ≡ record node { whole = whole_with node.row inherited }
    → whole_with node.row inherited ≡ dacl_at g (insert (tree_of bs) target node.row) target → first.whole ≡ dacl_at g (insert (tree_of bs) target first.row) target
moved_whole g bs target node first inherited is whole =
    ap (λ (n : Node). n.whole) is ∙ whole ∙ ap (λ (n : Node). dacl_at g (insert (tree_of bs) target n.row) target) (sym is)

pub returns-in_err-first-in-Err-clause-refused : goal.returns-in_err-first-in-Err-clause-refused
returns-in_err-first-in-Err-clause-refused c =
    let p = err_from_is_err_and c.from_residual-in_err-first-in-Err.result c.from_residual-in_err-first-in-Err.ensures.1 in
    let e = c.in_err-first-in-Err.field-0.0 in
    let whole = rw (c.as_path_ref-target.ensures, c.row.ensures) at c.in_ok-inherited-in-Err.ensures in
    let refused = size_error e _ _ whole c.in_err-first-in-Err.ensures.refused in
    rw (p.1, p.2) (large_late c.args.self.now.mapping.now c.args.self.now.nodes.now c.requires.standing c.args.source.now c.args.target.now c.requires.movable c.place_of-from.result c.place_of-from.ensures.within (λ d. c.place_of-from.ensures.stands d ∙ c.as_path_ref-source.ensures) e (first_refused c.args.self.now.mapping.now c.args.self.now.nodes.now c.requires.standing c.args.source.now c.args.target.now c.requires.movable c.place_of-from.result c.place_of-from.ensures.within (λ d. c.place_of-from.ensures.stands d ∙ c.as_path_ref-source.ensures)
    c.node-node.result.now.row (λ b. ap (λ (n : Node). n.row) (c.node-node.ensures b)) c.node-node.result.now e refused))

pub subtree-requires-clause-first : goal.subtree-requires-clause-first
subtree-requires-clause-first c = ap path_of_node c.in_ok-first-in-Err.ensures.node ∙ ap path_of_node (c.node-node.ensures c.node-node.result.now) ∙ c.place_of-from.ensures.stands c.node-node.result.now

pub returns-in_err-nodes-in-Err-clause-refused : goal.returns-in_err-nodes-in-Err-clause-refused
returns-in_err-nodes-in-Err-clause-refused c =
    let p = err_from_is_err_and c.from_residual-in_err-nodes-in-Err.result c.from_residual-in_err-nodes-in-Err.ensures.1 in
    let refused = rw c.as_path_ref-source.ensures at c.in_err-nodes-in-Err.ensures.refused in
    let is = c.in_ok-first-in-Err.ensures.node in
    let whole = moved_whole c.args.self.now.mapping.now c.args.self.now.nodes.now c.args.target.now c.node-node.result.now c.in_ok-first-in-Err.first c.in_ok-inherited-in-Err.inherited is (rw (c.as_path_ref-target.ensures, c.row.ensures) at c.in_ok-inherited-in-Err.ensures) in
    rw (p.1, p.2) (large_late c.args.self.now.mapping.now c.args.self.now.nodes.now c.requires.standing c.args.source.now c.args.target.now c.requires.movable c.place_of-from.result c.place_of-from.ensures.within (λ d. c.place_of-from.ensures.stands d ∙ c.as_path_ref-source.ensures) c.in_err-nodes-in-Err.field-0.0 (refused (moved (tree_of c.args.self.now.nodes.now) c.args.source.now c.args.target.now) c.args.target.now (is_moved c.args.self.now.mapping.now c.args.self.now.nodes.now c.requires.standing c.args.source.now c.args.target.now c.requires.movable c.place_of-from.result c.place_of-from.ensures.within (λ d. c.place_of-from.ensures.stands d ∙ c.as_path_ref-source.ensures)
    c.in_ok-first-in-Err.first (λ b. ap (λ (n : Node). n.row) is ∙ ap (λ (n : Node). n.row) (c.node-node.ensures b)) whole)))

pub relocated-requires : goal.relocated-requires
relocated-requires c k d lt =
    let nodes = c.in_ok-nodes-in-Err.nodes.items in
    let same : c.deref.result.now ≡ nodes = c.deref.ensures.value in
    let in-run : k < length nodes = omega (arith, lt, ap length same) in
    let n = c.in_ok-nodes-in-Err.ensures.nodes in
    let run = c.in_ok-nodes-in-Err.ensures.run in
    ap (λ xs. is_within c.as_path_ref-source.result (get_or xs k d).path) same
    ∙ ap (is_within c.as_path_ref-source.result) (n.paths k d d in-run)
    ∙ run.below (c.place_of-from.result + k) d (omega arith) (omega (arith, in-run))

pub returns-in_err-run-in-Err-clause-refused : goal.returns-in_err-run-in-Err-clause-refused
returns-in_err-run-in-Err-clause-refused c =
    let p = err_from_is_err_and c.from_residual-in_err-run-in-Err.result c.from_residual-in_err-run-in-Err.ensures.1 in
    let is = c.in_ok-first-in-Err.ensures.node in
    let whole = moved_whole c.args.self.now.mapping.now c.args.self.now.nodes.now c.args.target.now c.node-node.result.now c.in_ok-first-in-Err.first c.in_ok-inherited-in-Err.inherited is (rw (c.as_path_ref-target.ensures, c.row.ensures) at c.in_ok-inherited-in-Err.ensures) in
    let nodes = rw c.as_path_ref-source.ensures at c.in_ok-nodes-in-Err.ensures.nodes in
    let run = rw c.as_path_ref-source.ensures at c.in_ok-nodes-in-Err.ensures.run in
    let absent = rw c.as_path_ref-target.ensures at c.in-Err.ensures.absent in
    let refused = rw (c.as_path_ref-source.ensures, c.as_path_ref-target.ensures, c.deref.ensures.value) at c.in_err-run-in-Err.ensures.refused in
    rw (p.1, p.2) (deep_refused c.args.self.now.mapping.now c.args.self.now.nodes.now c.requires.standing c.args.source.now c.args.target.now c.requires.movable c.place_of-from.result c.place_of-from.ensures.within (λ d. c.place_of-from.ensures.stands d ∙ c.as_path_ref-source.ensures)
    c.in_ok-first-in-Err.first (λ b. ap (λ (n : Node). n.row) is ∙ ap (λ (n : Node). n.row) (c.node-node.ensures b)) whole c.in_ok-nodes-in-Err.nodes.items run nodes c.in-Err.at absent.0 absent.1 absent.2 c.in_err-run-in-Err.field-0.0 refused)

pub overflow_sub-to : goal.overflow_sub-to
overflow_sub-to c =
    let is = c.in_ok-first-in-Err.ensures.node in
    let whole = moved_whole c.args.self.now.mapping.now c.args.self.now.nodes.now c.args.target.now c.node-node.result.now c.in_ok-first-in-Err.first c.in_ok-inherited-in-Err.inherited is (rw (c.as_path_ref-target.ensures, c.row.ensures) at c.in_ok-inherited-in-Err.ensures) in
    let nodes = rw c.as_path_ref-source.ensures at c.in_ok-nodes-in-Err.ensures.nodes in
    let run = rw c.as_path_ref-source.ensures at c.in_ok-nodes-in-Err.ensures.run in
    let absent = rw c.as_path_ref-target.ensures at c.in-Err.ensures.absent in
    let size : length c.in_ok-run-in-Err.run'.items ≡ length c.in_ok-nodes-in-Err.nodes.items = ap length c.in_ok-run-in-Err.ensures.run ∙ length-map _ _ ∙ ap length c.deref.ensures.value in
    omega (
      arith,
      gap_behind c.args.self.now.mapping.now c.args.self.now.nodes.now c.requires.standing c.args.source.now c.args.target.now c.requires.movable c.place_of-from.result c.place_of-from.ensures.within (λ d. c.place_of-from.ensures.stands d ∙ c.as_path_ref-source.ensures)
          c.in_ok-first-in-Err.first (λ b. ap (λ (n : Node). n.row) is ∙ ap (λ (n : Node). n.row) (c.node-node.ensures b)) whole c.in_ok-nodes-in-Err.nodes.items run nodes c.in-Err.at absent.0 absent.1 absent.2 (omega (arith, c.if-at-from.false)),
      size,
      c.len.ensures,
      c.in_ok-run-in-Err.run'.ok.0,
    )

pub returns-clause-plan : goal.returns-clause-plan
returns-clause-plan c =
    let is = c.in_ok-first-in-Err.ensures.node in
    let whole = moved_whole c.args.self.now.mapping.now c.args.self.now.nodes.now c.args.target.now c.node-node.result.now c.in_ok-first-in-Err.first c.in_ok-inherited-in-Err.inherited is (rw (c.as_path_ref-target.ensures, c.row.ensures) at c.in_ok-inherited-in-Err.ensures) in
    let nodes = rw c.as_path_ref-source.ensures at c.in_ok-nodes-in-Err.ensures.nodes in
    let run = rw c.as_path_ref-source.ensures at c.in_ok-nodes-in-Err.ensures.run in
    let absent = rw c.as_path_ref-target.ensures at c.in-Err.ensures.absent in
    let gone = rw (c.as_path_ref-source.ensures, c.as_path_ref-target.ensures, c.deref.ensures.value) at c.in_ok-run-in-Err.ensures.run in
    let size : length c.in_ok-run-in-Err.run'.items ≡ length c.in_ok-nodes-in-Err.nodes.items = ap length gone ∙ length-map _ _ in
    rw gone (plan_moved c.args.self.now.mapping.now c.args.self.now.nodes.now c.requires.standing c.args.source.now c.args.target.now c.requires.movable c.place_of-from.result c.place_of-from.ensures.within (λ d. c.place_of-from.ensures.stands d ∙ c.as_path_ref-source.ensures)
    c.in_ok-first-in-Err.first (λ b. ap (λ (n : Node). n.row) is ∙ ap (λ (n : Node). n.row) (c.node-node.ensures b)) whole c.in_ok-nodes-in-Err.nodes.items run nodes c.in-Err.at absent.0 absent.1 absent.2 c.if-at-from.to (elim c.if-at-from.branch [
      | then-at-from w ↦ inl (w.if-at-from.true, w.to-is)
      | else-at-from w ↦ inr (omega (arith, w.if-at-from.false), w.to-is ∙ ap (λ n. c.in-Err.at - n) (omega (arith, w.len.ensures, c.in_ok-run-in-Err.run'.ok.0, size)))
    ]))

pub returns-clause-shallow : goal.returns-clause-shallow
returns-clause-shallow c =
    let is = c.in_ok-first-in-Err.ensures.node in
    let whole = moved_whole c.args.self.now.mapping.now c.args.self.now.nodes.now c.args.target.now c.node-node.result.now c.in_ok-first-in-Err.first c.in_ok-inherited-in-Err.inherited is (rw (c.as_path_ref-target.ensures, c.row.ensures) at c.in_ok-inherited-in-Err.ensures) in
    let nodes = rw c.as_path_ref-source.ensures at c.in_ok-nodes-in-Err.ensures.nodes in
    let run = rw c.as_path_ref-source.ensures at c.in_ok-nodes-in-Err.ensures.run in
    let absent = rw c.as_path_ref-target.ensures at c.in-Err.ensures.absent in
    let gone = rw (c.as_path_ref-source.ensures, c.as_path_ref-target.ensures, c.deref.ensures.value) at c.in_ok-run-in-Err.ensures.run in
    none_too_deep c.args.self.now.mapping.now c.args.self.now.nodes.now c.requires.standing c.args.source.now c.args.target.now c.requires.movable c.place_of-from.result c.place_of-from.ensures.within (λ d. c.place_of-from.ensures.stands d ∙ c.as_path_ref-source.ensures)
    c.in_ok-first-in-Err.first (λ b. ap (λ (n : Node). n.row) is ∙ ap (λ (n : Node). n.row) (c.node-node.ensures b)) whole c.in_ok-nodes-in-Err.nodes.items run nodes c.in-Err.at absent.0 absent.1 absent.2 (rw gone at c.in_ok-run-in-Err.ensures.shallow)
