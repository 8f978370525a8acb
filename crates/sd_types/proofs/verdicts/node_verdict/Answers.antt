use Rattle.std.proofs.Common.{List, map, ap, subst, ◌∙◌}
use Rattle.sd_check.specs.declared.verdict.Verdict.TheVariants.{EmptyRequest}
use Rattle.sd_specialize.specs.Specialize.{Gives}
use Rattle.sd_types.specs.Tree.{Chain, leaves_under}
use Rattle.sd_types.specs.Verdicts.{TreeQuestionValue, part_verdict, with_parts}
use Rattle.sd_types.proofs.verdicts.node_verdict.Goals as goal

pub returns : goal.returns
returns c =
    subst (λ (tree : List Chain). Gives (λ verdict. verdict) c.leaves_verdict.result
    (with_parts (part_verdict c.args.question.now c.args.descriptor.now) EmptyRequest (leaves_under tree c.args.chain.now)))
    (ap (map (λ chain. chain.items)) c.deref.ensures.value ∙ ap (λ (q : TreeQuestionValue). q.tree) c.question.view_is)
    c.leaves_verdict.ensures
