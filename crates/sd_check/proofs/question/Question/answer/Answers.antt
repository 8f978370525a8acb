-- As the rules have it, by what is granted and what MAXIMUM_ALLOWED takes in.
use Rattle.std.proofs.Common.{◌||◌, ◌&&◌, ◌==◌, ◌∙◌, sym, ap}
use Rattle.sd_check.proofs.Cited.{cond-true, cond-false, holds, mask_of, is_given, is_granted, missing_of, joined_with, most_of, plain_verdict, maximum_verdict, asking}
use Rattle.sd_check.proofs.Answered.{maximum_is, missing_is}
use Rattle.sd_check.proofs.LowMasks.{judged_open}
use Rattle.sd_check.proofs.question.Question.answer.Goals as goal

pub returns-then-holds : goal.returns-then-holds
returns-then-holds g c = λ dacl is_mask is_most.
    let q = asking g.O.Trustee.sid c.args.self.now in
    let granted = is_granted q.owner dacl q.mapping q.token in
    let given = is_given q.owner dacl q.token in
    let wanted = c.wanted-wanted.result in
    c.maximum_verdict.ensures
    ∙ maximum_is granted wanted _ c.args.granted
    (ap (λ q. mask_of (λ b. holds q b || holds 0x001FFFFF b) 32) (sym c.wanted-wanted.ensures))
    (is_mask ∙ ap (λ t. mask_of (λ b. holds t b && granted b) 32) (cond-true _ _ _ (sym c.holds.ensures ∙ c.if-holds.true)))
    q.mapping given dacl c.minus-missing.result c.args.most c.union.result c.minus-missing.ensures is_most c.union.ensures
    ∙ ap (λ w. maximum_verdict (missing_of granted w) (joined_with w (most_of q.mapping granted given dacl))) c.wanted-wanted.ensures
    ∙ sym (cond-true _ _ _ (sym c.holds.ensures ∙ c.if-holds.true))
    ∙ sym (judged_open q.mapping granted _ q.asked (sym c.is_empty.ensures ∙ c.if-is_empty.false) (ap (λ r. r == 0) (sym c.common-reserved.ensures) ∙ sym c.is_empty-2.ensures ∙ c.if-not-is_empty.false))

pub returns-else-holds : goal.returns-else-holds
returns-else-holds g c = λ dacl is_mask is_most.
    let q = asking g.O.Trustee.sid c.args.self.now in
    let granted = is_granted q.owner dacl q.mapping q.token in
    c.plain_verdict.ensures
    ∙ ap (plain_verdict c.wanted-wanted.result)
    (missing_is granted c.wanted-wanted.result c.args.granted c.minus-missing.result
    (is_mask ∙ ap (λ t. mask_of (λ b. holds t b && granted b) 32) (cond-false _ _ _ (sym c.holds.ensures ∙ c.if-holds.false) ∙ sym c.wanted-wanted.ensures))
    c.minus-missing.ensures)
    ∙ ap (λ w. plain_verdict w (missing_of granted w)) c.wanted-wanted.ensures
    ∙ sym (cond-false _ _ _ (sym c.holds.ensures ∙ c.if-holds.false))
    ∙ sym (judged_open q.mapping granted _ q.asked (sym c.is_empty.ensures ∙ c.if-is_empty.false) (ap (λ r. r == 0) (sym c.common-reserved.ensures) ∙ sym c.is_empty-2.ensures ∙ c.if-not-is_empty.false))
