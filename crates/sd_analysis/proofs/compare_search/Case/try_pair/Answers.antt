use Rattle.std.proofs.Common.{sym, ◌∙◌}
use Rattle.sd_analysis.proofs.Shares.{none_in_question}
use Rattle.sd_analysis.proofs.compare_search.Case.try_pair.Goals as goal

pub returns-then-is_empty-clause-gone : goal.returns-then-is_empty-clause-gone
returns-then-is_empty-clause-gone c = λ b low h.
    none_in_question c.in_question.result c.args.found.now.left b _ _ _ _ _ _ c.args.demand.by_owner c.args.demand.unlisted c.args.demand.unowned
    (c.in_question.ensures b low) (sym c.is_empty.ensures ∙ c.if-is_empty.true) (c.requires.after b low) (c.requires.before b low) h
