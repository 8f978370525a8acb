use Rattle.sd_c.proofs.Said.{judges_said}
use Rattle.sd_c.specs.Stored.{IsNoStoring, IsStoring}
use Rattle.sd_c.proofs.stored.hudarin_store_judge_stored.Goals as goal

pub returns-clause-answer : goal.returns-clause-answer
returns-clause-answer c = let a = c.args in
    judges_said c.stored_edit_of.result (IsStoring a.kind a.path.now a.own.now a.kept.now a.offer.now) (IsNoStoring a.kind a.path.now a.own.now a.kept.now a.offer.now)
    c.stored_edit_of.ensures.ok c.stored_edit_of.ensures.err a.store.now c.edit_judged.result c.edit_judged.ensures.answer
