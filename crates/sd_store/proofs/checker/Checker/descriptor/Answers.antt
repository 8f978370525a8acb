use Rattle.sd_store.proofs.Keeping.{goes_on, on_ok}
use Rattle.sd_store.proofs.checker.Checker.descriptor.Goals as goal

pub returns-clause-extends : goal.returns-clause-extends
returns-clause-extends g c = rw (← c.self.view_is) c.end.ensures.extends

pub returns-clause-views : goal.returns-clause-views
returns-clause-views g c = rw (← c.self.view_is, c.end.ensures.seat.1) (on_ok c.end.result (goes_on _ _ c.in_ok-entered.entered.part.value _ _ c.in_ok-entered.ensures.published))
