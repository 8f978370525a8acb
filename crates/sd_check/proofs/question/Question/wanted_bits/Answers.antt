use Rattle.std.proofs.Common.{◌||◌, ◌∙◌, sym, ap}
use Rattle.sd_check.proofs.Cited.{cond-true, holds, mask_of}
use Rattle.sd_check.proofs.question.Question.wanted_bits.Goals as goal

pub returns-then-holds : goal.returns-then-holds
returns-then-holds g c =
    c.union.ensures ∙ ap (λ q. mask_of (λ b. holds q b || holds 0x001FFFFF b) 32) c.wanted-wanted.ensures
    ∙ sym (cond-true _ _ _ (sym c.holds.ensures ∙ c.if-holds.true))
