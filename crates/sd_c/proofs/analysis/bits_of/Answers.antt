use Rattle.std.proofs.Common.{◌∙◌}
use Rattle.sd_c.proofs.Changes.{more_bits, no_bits}
use Rattle.sd_c.proofs.analysis.bits_of.Goals as goal

pub loop-change-init : goal.loop-change-init
loop-change-init c = no_bits

pub loop-change-preserved : goal.loop-change-preserved
loop-change-preserved c =
    c.union-bits.ensures
    ∙ more_bits c.args.changes.now c.loop-change.change-index c.loop-change.bits c.change-item.result c.loop-change-test.true
    c.change-item.is c.loop-change.invariant
