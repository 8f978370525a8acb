use Rattle.sd_analysis.proofs.Cited.{beq, holds, take_all, ◌==◌, ◌||◌}
use Rattle.sd_analysis.proofs.Rights.{alike_first, alike_next}
use Rattle.sd_analysis.proofs.who_case.Case.alike.Goals as goal

pub loop-entry-init : goal.loop-entry-init
loop-entry-init c = λ b low. alike_first c.args.among c.args.place c.on_the_side_of-alike.result b c.requires low (c.on_the_side_of-alike.ensures b low)

pub loop-entry-preserved : goal.loop-entry-preserved
loop-entry-preserved c = λ b low.
    alike_next c.args.self.now.mapping.now c.args.self.now.entries.now c.loop-entry.entry-index c.entry-item.result
    (holds c.args.among b) (beq (b == 17 || b == 18) (c.args.place == 17 || c.args.place == 18)) c.is_inherit_only.result c.map.result c.only_if-named.result c.args.place
    c.loop-entry.alike c.on_the_side_of-alike-in-loop-entry.result b c.loop-entry-test.true c.entry-item.is c.is_inherit_only.ensures c.map.ensures c.only_if-named.ensures
    (c.on_the_side_of-alike-in-loop-entry.ensures b low) (c.loop-entry.invariant b low)

pub returns : goal.returns
returns c = rw (take_all c.loop-entry.entry-index c.args.self.now.entries.now c.loop-entry-test.false) at c.loop-entry.invariant
