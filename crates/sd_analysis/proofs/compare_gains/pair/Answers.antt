use Rattle.sd_analysis.proofs.Cited.{Finding, Some, ap, arith, holds, inl, inr, sym, true, ℕ, ◌∙◌, ◌≡◌}
use Rattle.sd_analysis.proofs.Reports.{in_both, both_in}
use Rattle.sd_analysis.proofs.Gathered.{found_more, still_gone, at_item}
use Rattle.sd_analysis.proofs.compare_gains.pair.Goals as goal

pub loop-more-preserved : goal.loop-more-preserved
loop-more-preserved c = record {
  report = λ shows before all. c.in_ok-add.ensures.report shows (c.loop-more.invariant.report shows before all)
      (λ b h. let parts = in_both c.args.first.now.mask c.more-item.result.mask b (sym (ap (λ m. holds m b) c.common.ensures) ∙ h) in
      at_item (λ (x : Finding). (k : ℕ) → holds c.args.first.now.mask k ≡ true → holds x.mask k ≡ true → shows (record { first = c.args.first.now.sids; second = Some x.sids }) k ≡ true)
      c.args.second.now c.loop-more.more-index c.more-item.result c.loop-more-test.true c.more-item.is all b parts.0 parts.1);
  less = λ b h. c.loop-more.invariant.less b (c.in_ok-add.ensures.less b h);
  gone = λ b low first found. elim (found_more c.args.second.now c.loop-more.more-index c.more-item.result b c.loop-more-test.true c.more-item.is found) [
    | inl before ↦ still_gone c.loop-more.report c.add.new.self b c.in_ok-add.ensures.less (c.loop-more.invariant.gone b low first before)
    | inr now ↦ c.in_ok-add.ensures.gone b low (ap (λ m. holds m b) c.common.ensures ∙ both_in c.args.first.now.mask c.more-item.result.mask b (omega arith) first now)
  ];
}
