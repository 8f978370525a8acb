-- That another owner or group of a node changes the DACL of no other node.
use Rattle.sd_tree_laws.proofs.Cited.{GroupChangesOneNode, KeepingANullChangesNone, OwnerChangesOneNode, ap, changed, dacl_at, keeping, others_stay, row_alike, same_row_stays, ◌∙◌}

pub owner_changes_one_node : OwnerChangesOneNode
owner_changes_one_node g t path other owner ne =
    others_stay g t path (λ row. record row { owner = owner })
    (λ row r above. row_alike g r row.kind owner row.group row.owner row.group row.dacl above) other ne

pub group_changes_one_node : GroupChangesOneNode
group_changes_one_node g t path other group ne =
    others_stay g t path (λ row. record row { group = group })
    (λ row r above. row_alike g r row.kind row.owner group row.owner row.group row.dacl above) other ne

pub keeping_a_null_changes_none : KeepingANullChangesNone
keeping_a_null_changes_none g t path other null ne =
    ap (λ whole. dacl_at g (changed t path (keeping whole)) other) null ∙ same_row_stays g t path other ne
