-- What was given to a node fits a list, as the whole that it begins does.
use Rattle.sd_edit.proofs.Cited.{Ace, List, MappingValue, Names, NodeDacl, NodeRow, Null, Option, PlainTree, Some, ace_size, acl_size_of, ap, arith, dacl_at, dacl_here, dacl_size, dacl_under, own_entries, row_at, sum_by-append, ◌++◌, ◌∙◌, ◌≡◌, ◌≤◌}
use Rattle.sd_edit.specs.declared.node.NodeDacl.TheVariants.{List as Entries, Stored}
use Rattle.sd_edit.proofs.Dacls.{dacl_over, dacl_at_here}

front_fits : (own behind : List Ace) → acl_size_of (own ++ behind) ≤ 65535 → acl_size_of own ≤ 65535
front_fits own behind h = omega (arith, sum_by-append ace_size own behind)

own_fits : (g : MappingValue) (row : NodeRow) (dacl : NodeDacl) (above : Option (List Ace)) → dacl_size (dacl_under g row dacl above) ≤ 65535
    → acl_size_of (own_entries dacl) ≤ 65535
own_fits g row Null above h = omega arith
own_fits g row (Entries protected own) above h = front_fits own _ h
own_fits g row (Stored own inherited offer) above h = front_fits own _ h

-- the own entries of what stands at a path
pub given_fits : (g : MappingValue) (t : PlainTree) (path : Names) (row : NodeRow) → row_at t path ≡ Some row → dacl_size (dacl_at g t path) ≤ 65535
    → acl_size_of (own_entries row.dacl) ≤ 65535
given_fits g t path row is fits =
    let whole = dacl_at_here g t path ∙ ap (λ found. dacl_here g found (dacl_over g t path)) is in
    own_fits g row row.dacl (dacl_over g t path) (rw (whole) at fits)
