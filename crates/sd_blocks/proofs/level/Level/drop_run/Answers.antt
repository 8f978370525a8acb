use Rattle.std.proofs.Common.{◌+◌, arith, refl}
use Rattle.sd_blocks.proofs.RunSteps.{removed_step}
use Rattle.sd_blocks.proofs.level.Level.drop_run.Goals as goal

pub loop-preserved : goal.loop-preserved
loop-preserved g c =
    removed_step c.args.from c.loop.counter (c.loop.counter + 1) c.args.self.now c.loop.self c.remove.new.self (omega arith) refl c.loop.invariant c.in_ok-_gone.ensures.done
