use Rattle.sd_tree.proofs.Cited.{InheritOne, Names, Node, NodeRow, [], ap, arith, false, get_or, is_root, is_within, length, length-up, path_of_node, rules, subst, sym, true, up, up-push, within_rest, ◌++◌, ◌+◌, ◌∙◌, ◌∷◌, ◌≡◌, ◌≤◌}
use Rattle.std.proofs.Common.{length-append}
use Rattle.sd_tree.proofs.OneDacl.{alike_inherit_one}
use Rattle.sd_tree.proofs.tree_view.TreeView.is_sibling.Goals as goal

-- a path with as many names as another, below what holds that one, is held by it too
one_more : (top rest : Names) → length rest ≡ 1 → up (top ++ rest) ≡ top
one_more top [] e = absurd (omega arith)
one_more top (n ∷ []) e = up-push top n
one_more top (n ∷ m ∷ rest) e = absurd (omega arith)

same_parent : (p q : Names) → is_root p ≡ false → length p ≡ length q → is_within (up q) p ≡ true → up p ≡ up q
same_parent p q below long inside =
    let found = within_rest (up q) p inside in
    let size : length p ≡ length (up q) + length found.0 = ap length found.1 ∙ length-append (up q) found.0 in
    let some = named_once p below in
    ap up found.1 ∙ one_more (up q) found.0 (omega (arith, size, long, some, length-up q))
  where
    named_once : (p : Names) → is_root p ≡ false → 1 ≤ length p
    named_once [] h = absurd cc
    named_once (n ∷ p) h = omega arith

pub returns-then-depth : goal.returns-then-depth
returns-then-depth c held =
    let bs = c.args.self.now.nodes.now in
    let node_is : (b : Node) → c.args.node.now ≡ get_or bs c.args.at b = c.requires.node in
    let path_is : (b : Node) → c.path-beside.result ≡ path_of_node (get_or bs c.args.at b) =
    λ b. c.path-beside.ensures ∙ ap (λ (n : Node). n.path) (node_is b) in
    record {
      place = c.requires.place;
      below_root = λ b. ap is_root (sym (path_is b)) ∙ sym c.if-is_root.ensures;
      parent = λ b. ap up (sym (path_is b)) ∙ same_parent _ c.args.path.now (sym c.if-is_root.ensures) (sym c.depth.ensures ∙ c.if-depth.true ∙ c.depth-2.ensures)
          (ap (λ t. is_within t c.path-beside.result) (sym c.parent.ensures) ∙ sym c.is_within.ensures ∙ held);
      alike = λ b.
          let P : NodeRow → Type 0 = λ row. InheritOne row c.args.row.now c.args.above.now.whole in
          subst P (c.row.ensures ∙ ap (λ (n : Node). n.row) (node_is b)) (alike_inherit_one _ _ c.args.above.now.whole c.args.by_trustees (c.are_alike.ensures (search rules)) c.requires.trustees);
    }
