-- The DACL of a node from that of its parent.
use Rattle.sd_tree_laws.proofs.Cited.{DaclIsOfParent, None, RootInheritsNothing, ap, dacl_at, dacl_at_root, dacl_at_up, dacl_here, up, ◌∙◌}

pub dacl_is_of_parent : DaclIsOfParent
dacl_is_of_parent g t path row there below = dacl_at_up g t path below ∙ ap (λ o. dacl_here g o (dacl_at g t (up path))) there

pub root_inherits_nothing : RootInheritsNothing
root_inherits_nothing g t row there = dacl_at_root g t ∙ ap (λ o. dacl_here g o None) there
