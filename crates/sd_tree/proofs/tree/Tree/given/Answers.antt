use Rattle.sd_tree.proofs.Cited.{NodeRow, acl_size_of, dacl_size, given_fits, own_entries, subst, sym, tree_of, ◌≤◌}
use Rattle.sd_tree.proofs.tree.Tree.given.Goals as goal

-- src/listing.rt:71:36
pub own_descriptor_of_row-requires : goal.own_descriptor_of_row-requires
own_descriptor_of_row-requires c =
    let v = c.view-view.result in
    let stands = c.in-Some.ensures in
    let whole = stands.whole v.mapping.now c.view-view.ensures.standing.kept in
    let fits = subst (λ dacl. dacl_size dacl ≤ 65535) whole.0 whole.1 in
    subst (λ (row : NodeRow). acl_size_of (own_entries row.dacl) ≤ 65535) (sym c.row-row.ensures)
    (given_fits v.mapping.now (tree_of v.nodes.now) c.as_path_ref.result c.in-Some.node.now.row stands.row fits)
