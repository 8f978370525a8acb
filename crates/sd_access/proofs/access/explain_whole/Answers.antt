use Rattle.std.proofs.Common.{ap, ◌∙◌}
use Rattle.sd_acl.specs.Descriptor.{descriptor_of}
use Rattle.sd_client.specs.Client.{ClientValue}
use Rattle.sd_explain.specs.Parts.{reason_in, told_verdict}
use Rattle.sd_access.proofs.Answered.{checked}
use Rattle.sd_access.specs.Question.{QuestionValue}
use Rattle.sd_access.proofs.access.explain_whole.Goals as goal

pub returns-clause-verdict : goal.returns-clause-verdict
returns-clause-verdict c =
    checked c.args.question.now c.args.descriptor.now (descriptor_of c.in_ok-plain.plain) c.taken_from-taken.result c.question.inside.mapping.now c.client.inside.token
    c.question.inside.asked (told_verdict (reason_in c.explain_under-explanation.result.reasons)) c.in_ok-plain.ensures.exact c.taken_from-taken.ensures
    (ap (λ (q : QuestionValue). q.mapping) c.question.view_is)
    (ap (λ (k : ClientValue). k.token) c.client.view_is ∙ ap (λ (q : QuestionValue). q.client.token) c.question.view_is)
    (ap (λ (q : QuestionValue). q.asked) c.question.view_is)
    c.explain_under-explanation.ensures.verdict
