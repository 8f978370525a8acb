-- The lines so far, of those that were yielded.
use Rattle.std.proofs.Common.{◌≡◌, map}
use Rattle.sd_people.specs.Names.{names_in}
use Rattle.sd_people.specs.Naming.{named_line}
use Rattle.sd_people.proofs.naming.named_lines.Given as goal

abbrev pub invariant-loop-line : goal.invariant-loop-line
invariant-loop-line l = l.named.items ≡ map (named_line l.style (names_in l.names)) l.yielded
