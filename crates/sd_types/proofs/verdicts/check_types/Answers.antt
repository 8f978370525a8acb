use Rattle.std.proofs.Common.{List, map, ap, subst, ◌∙◌}
use Rattle.sd_specialize.specs.Specialize.{Gives}
use Rattle.sd_types.specs.Tree.{Chain}
use Rattle.sd_types.specs.Verdicts.{TreeQuestionValue, each_verdict, node_verdict}
use Rattle.sd_types.proofs.verdicts.check_types.Goals as goal

pub returns : goal.returns
returns c =
    subst (λ (tree : List Chain). Gives (λ verdicts. verdicts.items) c.each_verdict.result
    (each_verdict (node_verdict c.args.question.now c.args.descriptor.now) tree))
    (ap (map (λ chain. chain.items)) c.deref.ensures.value ∙ ap (λ (q : TreeQuestionValue). q.tree) c.question.view_is)
    c.each_verdict.ensures
