-- The lines so far, of those that were yielded.
use Rattle.std.proofs.Common.{◌≡◌, map}
use Rattle.sd_people.specs.Names.{names_in}
use Rattle.sd_people.specs.Naming.{named_told}
use Rattle.sd_people.proofs.naming.named_people.Given as goal

abbrev pub invariant-loop-told : goal.invariant-loop-told
invariant-loop-told l = l.named.items ≡ map (named_told l.style (names_in l.names)) l.yielded
