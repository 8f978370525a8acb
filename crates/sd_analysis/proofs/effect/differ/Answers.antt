-- The changes between the two lists say whether they differ.
use Rattle.sd_analysis.proofs.Cited.{ap, not-false, not-true, sym, ◌==◌, ◌∙◌}
use Rattle.sd_analysis.proofs.Effects.{alike_by_none, differ_by_gain, differ_by_loss}
use Rattle.sd_analysis.proofs.effect.differ.Goals as goal

pub returns-then-is_empty-clause-yes : goal.returns-then-is_empty-clause-yes
returns-then-is_empty-clause-yes c = λ some.
    differ_by_loss c.args.case.now.owner.now c.args.case.now.entries.now c.args.others.now c.args.case.now.mapping.now c.args.case.now.base.now
    c.in_ok-comparison.comparison.lost.items c.in_ok-comparison.ensures.lost (ap (λ n. n == 0) (sym c.in_ok-comparison.comparison.lost.ok.0) ∙ sym c.is_empty-then-is_empty.ensures ∙ not-true _ some)

pub returns-then-is_empty-clause-no : goal.returns-then-is_empty-clause-no
returns-then-is_empty-clause-no c = λ none.
    alike_by_none c.args.case.now.owner.now c.args.case.now.entries.now c.args.others.now c.args.case.now.mapping.now c.args.case.now.base.now
    c.in_ok-comparison.comparison.gained.items c.in_ok-comparison.comparison.lost.items c.in_ok-comparison.ensures.gained c.in_ok-comparison.ensures.lost
    (ap (λ n. n == 0) (sym c.in_ok-comparison.comparison.gained.ok.0) ∙ sym c.is_empty.ensures ∙ c.if-is_empty.true) (ap (λ n. n == 0) (sym c.in_ok-comparison.comparison.lost.ok.0) ∙ sym c.is_empty-then-is_empty.ensures ∙ not-false _ none)

pub returns-clause-yes : goal.returns-clause-yes
returns-clause-yes c = λ is.
    differ_by_gain c.args.case.now.owner.now c.args.case.now.entries.now c.args.others.now c.args.case.now.mapping.now c.args.case.now.base.now
    c.in_ok-comparison.comparison.gained.items c.in_ok-comparison.ensures.gained (ap (λ n. n == 0) (sym c.in_ok-comparison.comparison.gained.ok.0) ∙ sym c.is_empty.ensures ∙ c.if-is_empty.false)
