-- A request for the object's own rights and the standard ones alone has nothing reserved and nothing to map.
use Rattle.std.proofs.Common.{◌∙◌, ◌&&◌, Some, sym, ap}
use Rattle.sd_check.proofs.Cited.{holds, mask_of, is_granted, most, plain_verdict, asking}
use Rattle.sd_check.proofs.Answered.{missing_is, within_is}
use Rattle.sd_check.proofs.LowMasks.{judged_low, wanted_low}
use Rattle.sd_check.proofs.question.Question.verdict.Goals as goal

pub returns-then-is_plain : goal.returns-then-is_plain
returns-then-is_plain g c = λ seen comes.
    let q = asking g.O.Trustee.sid c.args.self.now in
    let granted = is_granted q.owner (Some seen) q.mapping q.token in
    let small = c.is_plain.ensures.small c.if-is_plain.true in
    c.plain_verdict.ensures
    ∙ ap (plain_verdict q.asked) (missing_is granted q.asked c.granted-granted.result c.minus.result
    (c.granted-granted.ensures seen comes ∙ ap (λ t. mask_of (λ b. holds t b && granted b) 32) (wanted_low q.mapping q.asked small)) c.minus.ensures)
    ∙ sym (judged_low q.mapping granted (most q.owner (Some seen) q.mapping q.token) q.asked (c.is_plain.ensures.some c.if-is_plain.true) small)

pub returns : goal.returns
returns g c = λ seen comes. c.answer.ensures (Some seen) (c.granted-granted.ensures seen comes) (within_is _ _ c.common.ensures)
