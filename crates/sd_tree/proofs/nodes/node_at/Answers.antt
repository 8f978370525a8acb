use Rattle.std.proofs.Common.{refl}
use Rattle.sd_tree.proofs.Kept.{node_here, row_absent}
use Rattle.sd_tree.proofs.nodes.node_at.Goals as goal

pub returns-in-Err : goal.returns-in-Err
returns-in-Err c = let none = c.in-Err.ensures.absent in row_absent _ c.requires _ c.in-Err.field-0 none.1 none.2

pub returns-in-Ok : goal.returns-in-Ok
returns-in-Ok c = node_here _ _ c.in-Ok.at _ _ c.requires c.in-Ok.ensures.found (c.node_in.ensures _) refl
