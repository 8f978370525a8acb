use Rattle.sd_analysis.proofs.Cited.{IsNeverMet, not-false, subst, sym, ◌∙◌}
use Rattle.sd_analysis.proofs.Restricted.{of_one_owner, without_owner}
use Rattle.sd_analysis.proofs.compare_search.Case.may_gain.Goals as goal

pub returns-in-None : goal.returns-in-None
returns-in-None c = λ refused. subst (IsNeverMet c.args.self.now) (sym c.if-not-by_owner.false) (without_owner c.args.self.now c.in-None.is)

pub returns-in-Some : goal.returns-in-Some
returns-in-Some c = λ refused. subst (IsNeverMet c.args.self.now) (sym c.if-not-by_owner.false)
    (of_one_owner c.args.self.now c.in-Some.owner c.in-Some.is (sym c.is_owned_by.ensures ∙ not-false _ refused))
