-- The groups are the base, with one more or without.
use Rattle.sd_analysis.proofs.Cited.{TokenValue, ap, ◌∙◌}
use Rattle.sd_analysis.proofs.Effects.{has_base_with}
use Rattle.sd_analysis.proofs.trial.is_shown.Goals as goal

pub returns : goal.returns
returns c = λ shows. record {
  token = c.new-token.result;
  has_base = has_base_with c.args.case.now.base.now c.args.denied.now c.new-token.result (ap (λ (t : TokenValue). t.groups) c.new-token.ensures ∙ c.in_ok-groups.ensures);
  request = 0x02000000;
  differs = c.differs.ensures shows;
}
