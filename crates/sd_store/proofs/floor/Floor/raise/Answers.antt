use Rattle.sd_store.proofs.Cited.{arith, items_from}
use Rattle.sd_store.proofs.Prefixes.{prefix_self, shorter_begins, turned}
use Rattle.sd_store.proofs.floor.Floor.raise.Goals as goal

pub returns-then-found-self-clause-extends : goal.returns-then-found-self-clause-extends
returns-then-found-self-clause-extends g c =
    let mine = items_from g.J.Chain.first c.self.inside.front.log in
    let found = items_from g.J.Chain.first c.found.inside.front.log in
    let met = c.meet.ensures g.J.Chain.first in
    rw (← c.self.view_is, ← c.found.view_is) (prefix_self mine, shorter_begins found mine (turned mine found met) (omega (arith, c.if-found-self.true, c.self.invariant.0, c.found.invariant.0)))

pub returns-clause-extends : goal.returns-clause-extends
returns-clause-extends g c =
    let mine = items_from g.J.Chain.first c.self.inside.front.log in
    let found = items_from g.J.Chain.first c.found.inside.front.log in
    let met = c.meet.ensures g.J.Chain.first in
    rw (← c.self.view_is, ← c.found.view_is) (shorter_begins mine found met (omega (arith, c.if-found-self.false, c.self.invariant.0, c.found.invariant.0)), prefix_self found)
