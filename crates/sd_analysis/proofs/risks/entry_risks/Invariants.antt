-- The risks so far are those of the entries so far.
use Rattle.sd_analysis.proofs.Cited.{entry_risks, ◌≡◌}
use Rattle.sd_analysis.proofs.risks.entry_risks.Given as goal

abbrev pub invariant-loop-place : goal.invariant-loop-place
invariant-loop-place l = l.found.items ≡ entry_risks l.entries l.place
