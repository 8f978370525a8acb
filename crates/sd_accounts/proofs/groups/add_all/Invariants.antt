-- The numbers so far are added.
use Rattle.std.proofs.Common.{take}
use Rattle.std.specs.List.{Contains}
use Rattle.sd_accounts.specs.Walk.{Extends}
use Rattle.sd_accounts.proofs.groups.add_all.Given as goal

abbrev pub invariant-loop-number : goal.invariant-loop-number
invariant-loop-number l = Extends (Contains (take l.number-index l.numbers)) l.initial.found l.found
