use Rattle.sd_analysis.proofs.Cited.{All, Finding, Some, holds, inl, inr, true, ℕ, ◌≡◌}
use Rattle.sd_analysis.proofs.Gathered.{found_more, still_gone, at_item}
use Rattle.sd_analysis.proofs.compare_gains.add_pairs.Goals as goal

pub loop-finding-preserved : goal.loop-finding-preserved
loop-finding-preserved c = record {
  report = λ shows before all. c.in_ok-pair.ensures.report shows (c.loop-finding.invariant.report shows before all)
      (at_item (λ (x : Finding). All (λ (s : Finding). (b : ℕ) → holds x.mask b ≡ true → holds s.mask b ≡ true → shows (record { first = x.sids; second = Some s.sids }) b ≡ true) c.args.second.now)
      c.args.first.now c.loop-finding.finding-index c.finding-item.result c.loop-finding-test.true c.finding-item.is all);
  less = λ b h. c.loop-finding.invariant.less b (c.in_ok-pair.ensures.less b h);
  gone = λ b low found again. elim (found_more c.args.first.now c.loop-finding.finding-index c.finding-item.result b c.loop-finding-test.true c.finding-item.is found) [
    | inl before ↦ still_gone c.loop-finding.report c.pair.new.report b c.in_ok-pair.ensures.less (c.loop-finding.invariant.gone b low before again)
    | inr now ↦ c.in_ok-pair.ensures.gone b low now again
  ];
}
