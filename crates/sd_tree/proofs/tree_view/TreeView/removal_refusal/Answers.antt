use Rattle.sd_tree.proofs.Cited.{ap, false, has_child, is_root, is_some, row_at, sym, tree_of, true, ◌∙◌, ◌≡◌}
use Rattle.sd_tree.proofs.Kept.{row_absent}
use Rattle.sd_tree.proofs.Rebuilding.{row_there}
use Rattle.sd_tree.proofs.tree_view.TreeView.removal_refusal.Goals as goal

pub returns-then-has_child : goal.returns-then-has_child
returns-then-has_child c =
    let bs = c.args.self.now.nodes.now in
    let found = c.in-Ok.ensures.found in
    let there : is_some (row_at (tree_of bs) c.args.path.now) ≡ true = ap is_some (row_there bs c.requires.kept.order c.args.path.now c.in-Ok.at found.0 (λ d. found.1 d ∙ c.as_path_ref-path.ensures)).1 in
    let has : has_child (tree_of bs) c.args.path.now ≡ true = ap (has_child (tree_of bs)) (sym c.as_path_ref-path.ensures) ∙ sym c.if-has_child.ensures in
    rw (there, has)

pub returns-in-Err : goal.returns-in-Err
returns-in-Err c =
    let bs = c.args.self.now.nodes.now in
    let absent = rw c.as_path_ref-path.ensures at c.in-Err.ensures.absent in
    let none : is_some (row_at (tree_of bs) c.args.path.now) ≡ false = ap is_some (row_absent bs c.requires.kept.order c.args.path.now c.in-Err.field-0 absent.1 absent.2) in
    rw none

pub returns-else-is_root : goal.returns-else-is_root
returns-else-is_root c =
    let bs = c.args.self.now.nodes.now in
    let found = c.in-Ok.ensures.found in
    let there : is_some (row_at (tree_of bs) c.args.path.now) ≡ true = ap is_some (row_there bs c.requires.kept.order c.args.path.now c.in-Ok.at found.0 (λ d. found.1 d ∙ c.as_path_ref-path.ensures)).1 in
    let none : has_child (tree_of bs) c.args.path.now ≡ false = ap (has_child (tree_of bs)) (sym c.as_path_ref-path.ensures) ∙ sym c.if-has_child.ensures in
    let below : is_root c.args.path.now ≡ false = ap is_root (sym c.as_path_ref-path.ensures) ∙ sym c.if-is_root.ensures in
    rw (there, none, below)
