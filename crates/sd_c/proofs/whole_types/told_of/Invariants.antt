-- What is told so far is of the verdicts so far.
use Rattle.std.proofs.Common.{take, ◌≡◌}
use Rattle.sd_c.specs.WholeTypes.{told_of}
use Rattle.sd_c.proofs.whole_types.told_of.Given as goal

abbrev pub invariant-loop-verdict : goal.invariant-loop-verdict
invariant-loop-verdict l = l.told.items ≡ told_of (take l.verdict-index l.verdicts)
