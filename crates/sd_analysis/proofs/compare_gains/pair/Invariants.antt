-- The report so far, and that no bit that came is wanted.
use Rattle.sd_analysis.proofs.Cited.{All, Bool, Finding, IsLess, IsReport, Some, Witness, false, holds, is_found, take, true, ℕ, ◌<◌, ◌≡◌}
use Rattle.sd_analysis.proofs.compare_gains.pair.Given as goal

abbrev pub invariant-loop-more : goal.invariant-loop-more
invariant-loop-more l = record {
  report : (shows : Witness → ℕ → Bool) → IsReport shows l.fn.report
      → All (λ (f : Finding). (b : ℕ) → holds l.first.mask b ≡ true → holds f.mask b ≡ true
      → shows (record { first = l.first.sids; second = Some f.sids }) b ≡ true) l.second
      → IsReport shows l.report;
  less : IsLess l.fn.report l.report;
  gone : (b : ℕ) → b < 21 → holds l.first.mask b ≡ true → is_found (take l.more-index l.second) b ≡ true → holds l.report.wanted b ≡ false;
}
