use Rattle.std.proofs.Common.{ap, inr, subst, ◌∙◌}
use Rattle.sd_acl.specs.Descriptor.{descriptor_of}
use Rattle.sd_client.specs.Client.{ClientValue}
use Rattle.sd_access.proofs.Answered.{same_context}
use Rattle.sd_access.specs.Question.{QuestionValue}
use Rattle.sd_specialize.specs.Context.{ContextValue}
use Rattle.sd_specialize.specs.Specialize.{Gives, specialized}
use Rattle.sd_access.proofs.access.plain_for.Goals as goal

pub returns-clause-exact : goal.returns-clause-exact
returns-clause-exact c =
    let d = c.args.descriptor.now in
    let same = same_context c.args.question.now d c.client.inside.token c.deref.result.now c.deref-2.result.now c.deref-3.result.now
    c.deref-4.result.now c.deref-5.result.now c.question.inside.chain.now c.question.inside.principal_self
    (ap (λ (k : ClientValue). k.token) c.client.view_is ∙ ap (λ (q : QuestionValue). q.client.token) c.question.view_is)
    (c.deref.ensures.value ∙ ap (λ (k : ClientValue). k.device_groups) c.client.view_is ∙ ap (λ (q : QuestionValue). q.client.device_groups) c.question.view_is)
    (c.deref-2.ensures.value ∙ ap (λ (k : ClientValue). k.local) c.client.view_is ∙ ap (λ (q : QuestionValue). q.client.local) c.question.view_is)
    (c.deref-3.ensures.value ∙ ap (λ (k : ClientValue). k.user) c.client.view_is ∙ ap (λ (q : QuestionValue). q.client.user) c.question.view_is)
    (c.deref-4.ensures.value ∙ ap (λ (k : ClientValue). k.device) c.client.view_is ∙ ap (λ (q : QuestionValue). q.client.device) c.question.view_is)
    (c.deref-5.ensures.value ∙ c.in_ok-resource.ensures.exact)
    (ap (λ (q : QuestionValue). q.chain) c.question.view_is)
    (ap (λ (q : QuestionValue). q.principal_self) c.question.view_is) in
    subst (λ (k : ContextValue). Gives descriptor_of c.specialized.result (specialized k d)) same c.specialized.ensures.exact

pub returns-clause-memory : goal.returns-clause-memory
returns-clause-memory c = λ h. inr (c.specialized.ensures.memory h)
