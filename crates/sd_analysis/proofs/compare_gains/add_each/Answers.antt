use Rattle.sd_analysis.proofs.Cited.{Finding, None, holds, inl, inr, true, ℕ, ◌≡◌}
use Rattle.sd_analysis.proofs.Gathered.{found_more, still_gone, at_item}
use Rattle.sd_analysis.proofs.compare_gains.add_each.Goals as goal

pub loop-finding-preserved : goal.loop-finding-preserved
loop-finding-preserved c = record {
  report = λ shows before all. c.in_ok-add.ensures.report shows (c.loop-finding.invariant.report shows before all)
      (at_item (λ (x : Finding). (b : ℕ) → holds x.mask b ≡ true → shows (record { first = x.sids; second = None }) b ≡ true)
      c.args.findings.now c.loop-finding.finding-index c.finding-item.result c.loop-finding-test.true c.finding-item.is all);
  less = λ b h. c.loop-finding.invariant.less b (c.in_ok-add.ensures.less b h);
  gone = λ b low found. elim (found_more c.args.findings.now c.loop-finding.finding-index c.finding-item.result b c.loop-finding-test.true c.finding-item.is found) [
    | inl before ↦ still_gone c.loop-finding.report c.add.new.self b c.in_ok-add.ensures.less (c.loop-finding.invariant.gone b low before)
    | inr now ↦ c.in_ok-add.ensures.gone b low now
  ];
}
