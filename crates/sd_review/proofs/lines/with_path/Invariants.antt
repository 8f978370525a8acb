-- The lines so far, each after the path.
use Rattle.std.proofs.Common.{◌≡◌}
use Rattle.sd_review.specs.Lines.{with_path}
use Rattle.sd_review.proofs.lines.with_path.Given as goal

abbrev pub invariant-loop-line : goal.invariant-loop-line
invariant-loop-line l = l.headed.items ≡ with_path l.path l.yielded
