-- What is left are the rights that the entries so far decide alike.
use Rattle.sd_analysis.proofs.Cited.{beq, holds, list_all, take, ℕ, ◌&&◌, ◌<◌, ◌==◌, ◌||◌, ◌≡◌}
use Rattle.sd_analysis.proofs.Rights.{alike}
use Rattle.sd_analysis.proofs.who_case.Case.alike.Given as goal

abbrev pub invariant-loop-entry : goal.invariant-loop-entry
invariant-loop-entry l =
    (b : ℕ) → b < 32 → holds l.alike b ≡ (holds l.fn.among b && (beq (b == 17 || b == 18) (l.place == 17 || l.place == 18)
    && list_all (alike l.self.mapping.now b l.place) (take l.entry-index l.self.entries.now)))
