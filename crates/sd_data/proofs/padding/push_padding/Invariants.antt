-- The bytes so far are those that were there, and the zeros so far.
use Rattle.sd_data.proofs.Cited.{replicate, ◌++◌, ◌≡◌}
use Rattle.sd_data.proofs.padding.push_padding.Given as goal

abbrev pub invariant-loop : goal.invariant-loop
invariant-loop l = l.bytes.items ≡ l.fn.bytes.items ++ replicate l.counter 0
