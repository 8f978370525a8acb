-- Each right is granted, and what is granted without an entry.
use Rattle.std.proofs.Common.{◌≡◌, false, ◌&&◌, ◌||◌, not, nat_lt, None, ◌∙◌, ap}
use Rattle.sd_check.proofs.Cited.{holds, mask_of, is_given, is_implied, limits_owner, asking, is_restricted, Privileges, is_owner}
use Rattle.sd_check.proofs.Answered.{granted_is, granted_without_a_list, most_without_a_list}
use Rattle.sd_check.proofs.question.Question.verdict_without_a_list.Goals as goal

pub returns : goal.returns
returns g c =
    let q = asking g.O.Trustee.sid c.args.self.now in
    let privileged = c.privileged-privileged.ensures ∙ ap (λ (p : Privileges). mask_of (is_implied false p.take_ownership p.security) 32) c.privileges.ensures in
    let given = is_given q.owner None q.token in
    let most : c.common-most.result ≡ mask_of (λ b. nat_lt b 21 && (holds c.all.result b || given b)) 32 =
    most_without_a_list (is_owner q.token q.owner) q.token.privileges.take_ownership q.token.privileges.security _ _ _ _ _ _
    c.owners_rights.ensures privileged c.union-given.ensures c.union.ensures c.common-most.ensures in
    c.answer.ensures None
    (granted_is _ _ _ _ _ _ _ _ _ (granted_without_a_list (is_owner q.token q.owner && not (limits_owner None)) (not (is_restricted q.token)) _ _ (c.common.ensures ∙ ap (λ w. mask_of (λ b. holds w b && holds 0x001FFFFF b) 32) c.wanted_bits-wanted.ensures))
    privileged
    (c.common-2.ensures ∙ ap (λ w. mask_of (λ b. holds w b && holds c.privileged-privileged.result b) 32) c.wanted_bits-wanted.ensures) c.union-granted.ensures)
    (most ∙ ap (λ all. mask_of (λ b. nat_lt b 21 && (holds all b || given b)) 32) c.all.ensures.all)
