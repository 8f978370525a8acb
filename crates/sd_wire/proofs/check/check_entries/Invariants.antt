-- The entries so far and those that are left are all of them, and the tally is what those so far come to.
use Rattle.sd_wire.proofs.Cited.{Ace, IsCheckProgress, List, asking, drop, entries_of, front_read, nat_eq, not, take, ◌-◌, ◌≡◌}
use Rattle.sd_wire.proofs.Loop.{behind}
use Rattle.sd_wire.proofs.check.check_entries.Given as goal

abbrev pub invariant-loop : goal.invariant-loop
invariant-loop g l =
    let places = l.fn.entries in
    (seen : List Ace) × (behind seen (entries_of front_read l.rest (places.count - l.counter)) ≡ entries_of front_read (take (places.end - places.place) (drop places.place l.bytes)) places.count)
    × IsCheckProgress (not (nat_eq (denote.Param.value_of (denote.Param.number g.row.BOTH)) 0)) (asking (λ s. s) l.question) seen l.progress
