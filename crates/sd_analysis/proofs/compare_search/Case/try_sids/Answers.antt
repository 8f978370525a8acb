use Rattle.std.proofs.Common.{sym, ◌∙◌}
use Rattle.sd_analysis.proofs.Reports.{wanted_less}
use Rattle.sd_analysis.proofs.Searched.{found_one_more, none_left, sids_gone}
use Rattle.sd_analysis.proofs.compare_search.Case.try_sids.Goals as goal

pub returns-then-is_empty-clause-gone : goal.returns-then-is_empty-clause-gone
returns-then-is_empty-clause-gone c = λ b low h.
    none_left c.args.found.now.left c.met-mask.result b _ (c.met-mask.ensures.met b low) (sym c.is_empty.ensures ∙ c.if-is_empty.true) h

pub returns-clause-found : goal.returns-clause-found
returns-clause-found c = λ wanted so_far.
    found_one_more c.args.self.now c.args.pass c.args.demand wanted c.args.found.now _ c.args.sids.now c.met-mask.result
    c.met-mask.ensures.within c.met-mask.ensures.met c.in_ok-add_finding.ensures c.minus-found.ensures so_far

pub returns-clause-less : goal.returns-clause-less
returns-clause-less c = λ b h. wanted_less c.args.found.now.left c.met-mask.result c.minus-found.result b c.minus-found.ensures h

pub returns-clause-gone : goal.returns-clause-gone
returns-clause-gone c = λ b low h. sids_gone c.args.found.now.left c.met-mask.result c.minus-found.result b _ (c.met-mask.ensures.met b low) c.minus-found.ensures h
