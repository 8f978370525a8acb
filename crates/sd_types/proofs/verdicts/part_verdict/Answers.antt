use Rattle.std.proofs.Common.{ap}
use Rattle.sd_types.proofs.Parts.{asked_of}
use Rattle.sd_types.specs.Verdicts.{TreeQuestionValue}
use Rattle.sd_types.proofs.verdicts.part_verdict.Goals as goal

pub returns : goal.returns
returns c =
    asked_of c.args.question.now c.args.descriptor.now c.args.chain.now c.check_whole.result c.question.inside.client.now
    c.question.inside.principal_self c.question.inside.mapping.now c.question.inside.asked
    (ap (λ (q : TreeQuestionValue). q.client) c.question.view_is)
    (ap (λ (q : TreeQuestionValue). q.principal_self) c.question.view_is)
    (ap (λ (q : TreeQuestionValue). q.mapping) c.question.view_is)
    (ap (λ (q : TreeQuestionValue). q.asked) c.question.view_is)
    c.check_whole.ensures.exact
