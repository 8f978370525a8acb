-- A text is read by the first ending with which it is a SID.
use Rattle.std.proofs.Common.{inl, inr, refl}
use Rattle.sd_answer.proofs.Words.{neither}
use Rattle.sd_answer.proofs.word.read_group.Goals as goal

pub returns-in-Some-sid_before-clause-group : goal.returns-in-Some-sid_before-clause-group
returns-in-Some-sid_before-clause-group c =
    inr (λ one is. c.in_default.ensures.none is.0 is.1, inl (c.in-Some-sid_before.sid, c.in-Some-sid_before.ensures.found, refl))

pub returns-clause-group : goal.returns-clause-group
returns-clause-group c = inr (
  λ one is. c.in_default.ensures.none is.0 is.1,
  inr (λ one is. c.in_default-sid_before.ensures.none is.0 is.1, (c.in_ok-sid.sid, c.in_ok-sid.ensures.found, refl)),
)

pub returns-in_err-sid-clause-none : goal.returns-in_err-sid-clause-none
returns-in_err-sid-clause-none c = rw c.from_residual.ensures (neither _ _ (λ one is. c.in_default.ensures.none is.0 is.1)
    (neither _ _ (λ one is. c.in_default-sid_before.ensures.none is.0 is.1) (λ one is. c.in_err-sid.ensures.none is.0 is.1)))
