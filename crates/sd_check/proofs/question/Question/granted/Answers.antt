use Rattle.std.proofs.Common.{false, ◌&&◌, ◌∙◌, ap}
use Rattle.sd_check.proofs.Cited.{holds, mask_of, is_implied, Privileges}
use Rattle.sd_check.proofs.Answered.{granted_is}
use Rattle.sd_check.proofs.question.Question.granted.Goals as goal

pub returns : goal.returns
returns g c = λ seen comes.
    granted_is _ _ _ _ _ _ _ _ _ (c.listed.ensures seen comes)
    (c.privileged.ensures ∙ ap (λ (p : Privileges). mask_of (is_implied false p.take_ownership p.security) 32) c.privileges.ensures)
    (c.common-privileged.ensures ∙ ap (λ q. mask_of (λ b. holds q b && holds c.privileged.result b) 32) c.wanted_bits.ensures) c.union.ensures
