-- The values so far.
use Rattle.sd_show.proofs.Cited.{entry_values, take, ◌≡◌}
use Rattle.sd_show.proofs.entry.entry_values.Given as goal

abbrev pub invariant-loop-number : goal.invariant-loop-number
invariant-loop-number l = l.values.items ≡ entry_values l.fn.acl (take l.number-index l.numbers)
