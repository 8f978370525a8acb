use Rattle.sd_store.proofs.Cited.{IsDealt, vec_capacity, vec_len, ◌≡◌, ◌≤◌}
use Rattle.sd_store.proofs.auditing.gathered.Given as goal

abbrev pub invariant-loop-place : goal.invariant-loop-place
invariant-loop-place g l = (vec_len l.answers ≡ l.place) × (l.count ≤ vec_capacity l.answers) × IsDealt l.checkers l.answers.items
