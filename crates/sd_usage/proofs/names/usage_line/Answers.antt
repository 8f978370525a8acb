-- The parts are those of the command.
use Rattle.std.proofs.Common.{append_assoc}
use Rattle.sd_usage.proofs.names.usage_line.Goals as goal

pub returns : goal.returns
returns c = simp append_assoc (rw (c.in_ok-flags.ensures, c.in_ok-arguments.ensures, c.in_ok-repeated.ensures) at c.in_ok-text.ensures.ok)
