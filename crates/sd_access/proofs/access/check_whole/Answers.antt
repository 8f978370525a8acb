use Rattle.std.proofs.Common.{ap, refl, ◌∙◌}
use Rattle.std.proofs.lemmas.Result.{err_from_is_err_and}
use Rattle.sd_client.specs.Client.{ClientValue}
use Rattle.sd_access.proofs.Answered.{fails, less_label, same_context}
use Rattle.sd_access.specs.Question.{QuestionValue}
use Rattle.sd_access.proofs.access.check_whole.Goals as goal

pub returns-in_err-unlabelled-clause-exact : goal.returns-in_err-unlabelled-clause-exact
returns-in_err-unlabelled-clause-exact c =
    let d = c.args.descriptor.now in
    let same = same_context c.args.question.now d c.client.inside.token c.deref.result.now c.deref-2.result.now c.deref-3.result.now
    c.deref-4.result.now c.deref-5.result.now c.question.inside.chain.now c.question.inside.principal_self
    (ap (λ (k : ClientValue). k.token) c.client.view_is ∙ ap (λ (q : QuestionValue). q.client.token) c.question.view_is)
    (c.deref.ensures.value ∙ ap (λ (k : ClientValue). k.device_groups) c.client.view_is ∙ ap (λ (q : QuestionValue). q.client.device_groups) c.question.view_is)
    (c.deref-2.ensures.value ∙ ap (λ (k : ClientValue). k.local) c.client.view_is ∙ ap (λ (q : QuestionValue). q.client.local) c.question.view_is)
    (c.deref-3.ensures.value ∙ ap (λ (k : ClientValue). k.user) c.client.view_is ∙ ap (λ (q : QuestionValue). q.client.user) c.question.view_is)
    (c.deref-4.ensures.value ∙ ap (λ (k : ClientValue). k.device) c.client.view_is ∙ ap (λ (q : QuestionValue). q.client.device) c.question.view_is)
    (c.deref-5.ensures.value ∙ c.in_ok-claims.ensures.exact)
    (ap (λ (q : QuestionValue). q.chain) c.question.view_is)
    (ap (λ (q : QuestionValue). q.principal_self) c.question.view_is) in
    let p = err_from_is_err_and c.from_residual-in_err-unlabelled.result c.from_residual-in_err-unlabelled.ensures.1 in
    rw (p.1, p.2) (fails c.args.question.now d _ same c.question.inside.mapping.now c.client.inside.token c.question.inside.asked
    c.in_err-unlabelled.field-0.0 c.in_err-unlabelled.ensures.exact)

pub returns-clause-exact : goal.returns-clause-exact
returns-clause-exact c =
    let d = c.args.descriptor.now in
    let same = same_context c.args.question.now d c.client.inside.token c.deref.result.now c.deref-2.result.now c.deref-3.result.now
    c.deref-4.result.now c.deref-5.result.now c.question.inside.chain.now c.question.inside.principal_self
    (ap (λ (k : ClientValue). k.token) c.client.view_is ∙ ap (λ (q : QuestionValue). q.client.token) c.question.view_is)
    (c.deref.ensures.value ∙ ap (λ (k : ClientValue). k.device_groups) c.client.view_is ∙ ap (λ (q : QuestionValue). q.client.device_groups) c.question.view_is)
    (c.deref-2.ensures.value ∙ ap (λ (k : ClientValue). k.local) c.client.view_is ∙ ap (λ (q : QuestionValue). q.client.local) c.question.view_is)
    (c.deref-3.ensures.value ∙ ap (λ (k : ClientValue). k.user) c.client.view_is ∙ ap (λ (q : QuestionValue). q.client.user) c.question.view_is)
    (c.deref-4.ensures.value ∙ ap (λ (k : ClientValue). k.device) c.client.view_is ∙ ap (λ (q : QuestionValue). q.client.device) c.question.view_is)
    (c.deref-5.ensures.value ∙ c.in_ok-claims.ensures.exact)
    (ap (λ (q : QuestionValue). q.chain) c.question.view_is)
    (ap (λ (q : QuestionValue). q.principal_self) c.question.view_is) in
    less_label c.args.question.now d _ same c.question.inside.mapping.now c.client.inside.token c.question.inside.asked
    _ c.taken_from-taken.result c.in_ok-unlabelled.unlabelled c.verdict_under.result refl c.taken_from-taken.ensures
    (ap (λ (q : QuestionValue). q.mapping) c.question.view_is)
    (ap (λ (k : ClientValue). k.token) c.client.view_is ∙ ap (λ (q : QuestionValue). q.client.token) c.question.view_is)
    (ap (λ (q : QuestionValue). q.asked) c.question.view_is)
    c.in_ok-unlabelled.ensures.exact c.verdict_under.ensures
