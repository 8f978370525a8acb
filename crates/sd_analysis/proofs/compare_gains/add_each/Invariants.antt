-- The report so far, and that no bit that came is wanted.
use Rattle.sd_analysis.proofs.Cited.{All, Bool, Finding, IsLess, IsReport, None, Witness, false, holds, is_found, take, true, ℕ, ◌<◌, ◌≡◌}
use Rattle.sd_analysis.proofs.compare_gains.add_each.Given as goal

abbrev pub invariant-loop-finding : goal.invariant-loop-finding
invariant-loop-finding l = record {
  report : (shows : Witness → ℕ → Bool) → IsReport shows l.fn.report
      → All (λ (f : Finding). (b : ℕ) → holds f.mask b ≡ true → shows (record { first = f.sids; second = None }) b ≡ true) l.findings
      → IsReport shows l.report;
  less : IsLess l.fn.report l.report;
  gone : (b : ℕ) → b < 21 → is_found (take l.finding-index l.findings) b ≡ true → holds l.report.wanted b ≡ false;
}
