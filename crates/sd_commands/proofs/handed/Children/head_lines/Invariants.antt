use Rattle.sd_commands.proofs.Cited.{map, ◌≡◌}
use Rattle.sd_commands.specs.Handed.{headed}
use Rattle.sd_commands.proofs.handed.Children.head_lines.Given as goal

abbrev pub invariant-loop-line : goal.invariant-loop-line
invariant-loop-line l = l.all.items ≡ map (headed l.self) l.yielded
