use Rattle.sd_store.proofs.Cited.{All, [], newcomer, vec_capacity, vec_len, ◌≡◌, ◌≤◌}
use Rattle.sd_store.proofs.opening.seated.Given as goal

abbrev pub invariant-loop : goal.invariant-loop
invariant-loop g l =
    (vec_len l.checkers ≡ l.counter)
    × (l.readers ≤ vec_capacity l.checkers)
    × All (λ checker. (checker.floor ≡ []) × (checker.view ≡ newcomer)) l.checkers.items
