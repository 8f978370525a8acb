use Rattle.sd_c.proofs.Cited.{IsEdit, IsNoEdit}
use Rattle.sd_c.proofs.Said.{edits_said}
use Rattle.sd_c.proofs.stores.hudarin_store_edit.Goals as goal

pub returns : goal.returns
returns c = let a = c.args in
    edits_said c.edit_of.result (IsEdit a.kind a.path.now a.value.now) (IsNoEdit a.kind a.path.now a.value.now) c.edit_of.ensures.ok c.edit_of.ensures.err
    a.store.now c.edit_made.new.store c.edit_made.result c.edit_made.ensures
