-- A move is done in any notation.
use Rattle.sd_script.proofs.script.done.Goals as goal

pub returns-in_ok-moved-in-Moving-clause-done : goal.returns-in_ok-moved-in-Moving-clause-done
returns-in_ok-moved-in-Moving-clause-done c = rw (c.in-Moving.is, c.of-in-Moving.ensures) (c.in_ok-moved-in-Moving.ensures.done c.args.notation)
