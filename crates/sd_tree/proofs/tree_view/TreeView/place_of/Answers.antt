use Rattle.sd_tree.proofs.Cited.{ap, false≢true, is_some, sym, ◌∙◌}
use Rattle.sd_tree.proofs.Kept.{row_absent}
use Rattle.sd_tree.proofs.tree_view.TreeView.place_of.Goals as goal

pub unreachable-requires : goal.unreachable-requires
unreachable-requires c =
    let none = row_absent _ c.requires.standing.kept.order c.args.path.now c.in-Err.field-0 c.in-Err.ensures.absent.1 c.in-Err.ensures.absent.2 in
    false≢true (sym (ap is_some none) ∙ c.requires.there)
