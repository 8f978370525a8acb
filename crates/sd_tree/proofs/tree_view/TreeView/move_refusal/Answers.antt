use Rattle.sd_tree.proofs.Cited.{IntoItself, IsRoot, [], fits_first, fits_later, is_root, is_within, node_tests, place_tests, sym, tree_of, ◌++◌, ◌∙◌, ◌∷◌}
use Rattle.sd_tree.proofs.tree_view.TreeView.move_refusal.Goals as goal

pub returns-in-Some-absence : goal.returns-in-Some-absence
returns-in-Some-absence c =
    let t = tree_of c.args.self.now.nodes.now in
    let rest = (is_root c.args.source.now, IsRoot) ∷ (is_within c.args.source.now c.args.target.now, IntoItself) ∷ [] in
    sym (fits_later (place_tests t c.args.target.now) (node_tests t c.args.source.now ++ rest) (sym c.in_default.ensures)
    ∙ fits_first (node_tests t c.args.source.now) rest c.in-Some-absence.refusal (sym c.absence.ensures ∙ c.in-Some-absence.is))
