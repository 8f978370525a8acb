use Rattle.sd_versions.proofs.Cited.{Runs, length, take, vec_capacity, vec_len, ◌≡◌, ◌≤◌}
use Rattle.sd_versions.proofs.desk.Desk.run.Given as goal

-- the first requests are done, and there is room for the replies to the others
abbrev pub invariant-loop-request : goal.invariant-loop-request
invariant-loop-request l =
    (vec_len l.replies ≡ l.request-index) × (length l.requests ≤ vec_capacity l.replies)
    × Runs l.initial.self (take l.request-index l.requests) l.replies.items l.self
