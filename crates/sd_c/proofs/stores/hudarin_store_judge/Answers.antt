use Rattle.sd_c.proofs.Cited.{IsEdit, IsNoEdit}
use Rattle.sd_c.proofs.Said.{judges_said}
use Rattle.sd_c.proofs.stores.hudarin_store_judge.Goals as goal

pub returns-clause-answer : goal.returns-clause-answer
returns-clause-answer c = let a = c.args in
    judges_said c.edit_of.result (IsEdit a.kind a.path.now a.value.now) (IsNoEdit a.kind a.path.now a.value.now) c.edit_of.ensures.ok c.edit_of.ensures.err
    a.store.now c.edit_judged.result c.edit_judged.ensures.answer
