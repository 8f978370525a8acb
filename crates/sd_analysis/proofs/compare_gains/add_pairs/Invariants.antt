-- The report so far, and that no bit that both passes have shown so far is wanted.
use Rattle.sd_analysis.proofs.Cited.{All, Bool, Finding, IsLess, IsReport, Some, Witness, false, holds, is_found, take, true, ℕ, ◌<◌, ◌≡◌}
use Rattle.sd_analysis.proofs.compare_gains.add_pairs.Given as goal

abbrev pub invariant-loop-finding : goal.invariant-loop-finding
invariant-loop-finding l = record {
  report : (shows : Witness → ℕ → Bool) → IsReport shows l.fn.report
      → All (λ (f : Finding). All (λ (s : Finding). (b : ℕ) → holds f.mask b ≡ true → holds s.mask b ≡ true
      → shows (record { first = f.sids; second = Some s.sids }) b ≡ true) l.second) l.first
      → IsReport shows l.report;
  less : IsLess l.fn.report l.report;
  gone : (b : ℕ) → b < 21 → is_found (take l.finding-index l.first) b ≡ true → is_found l.second b ≡ true → holds l.report.wanted b ≡ false;
}
