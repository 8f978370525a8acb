-- Each entry takes the walk on.
use Rattle.sd_analysis.proofs.Cited.{implied_holder, take, take_all, take_more}
use Rattle.sd_analysis.proofs.Walks.{walk_starts}
use Rattle.sd_analysis.proofs.who_case.Case.walk.Goals as goal

pub loop-entry-init : goal.loop-entry-init
loop-entry-init c =
    walk_starts c.args.self.now.base.now (implied_holder c.args.self.now.owner.now c.args.self.now.entries.now c.args.place) c.args.self.now.owner.now
    c.args.self.now.mapping.now c.args.place c.in_ok-walk.walk (rw c.implied_holder.ensures at c.in_ok-walk.ensures)

pub loop-entry-preserved : goal.loop-entry-preserved
loop-entry-preserved c =
    let es = c.args.self.now.entries.now in let i = c.loop-entry.entry-index in
    rw (take_more es i c.entry-item.result c.loop-entry-test.true, ← c.entry-item.is)
    (c.in_ok-step.ensures (implied_holder c.args.self.now.owner.now es c.args.place) (take i es) c.loop-entry.invariant)

pub returns : goal.returns
returns c = rw (take_all c.loop-entry.entry-index c.args.self.now.entries.now c.loop-entry-test.false) at c.loop-entry.invariant
