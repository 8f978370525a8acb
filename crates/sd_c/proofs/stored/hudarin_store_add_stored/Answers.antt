use Rattle.sd_c.proofs.Said.{edits_said}
use Rattle.sd_c.specs.Stored.{IsNoStoring, IsStoring}
use Rattle.sd_c.proofs.stored.hudarin_store_add_stored.Goals as goal

pub returns : goal.returns
returns c = let a = c.args in
    edits_said c.stored_edit_of.result (IsStoring a.kind a.path.now a.own.now a.kept.now a.offer.now) (IsNoStoring a.kind a.path.now a.own.now a.kept.now a.offer.now)
    c.stored_edit_of.ensures.ok c.stored_edit_of.ensures.err a.store.now c.edit_made.new.store c.edit_made.result c.edit_made.ensures
