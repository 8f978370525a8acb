use Rattle.sd_tree.proofs.Cited.{fits_first, list_tests, place_tests, sym, tree_of, ◌∙◌}
use Rattle.sd_tree.proofs.tree_view.TreeView.addition_refusal.Goals as goal

pub returns-in-Some : goal.returns-in-Some
returns-in-Some c =
    sym (fits_first (place_tests (tree_of c.args.self.now.nodes.now) c.args.path.now) (list_tests c.args.dacl.now) c.in-Some.refusal (sym c.place_refusal.ensures ∙ c.in-Some.is))
