-- Those so far are said.
use Rattle.std.proofs.Common.{replicate, ◌++◌, ◌≡◌}
use Rattle.sd_accounts.proofs.groups.note.Given as goal

abbrev pub invariant-loop : goal.invariant-loop
invariant-loop l = l.before.items ≡ l.fn.before.items ++ replicate l.counter l.from
