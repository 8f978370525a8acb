-- The reason is that of the SID.
use Rattle.std.proofs.Common.{codes, string_bytes, subst}
use Rattle.std.proofs.lemmas.Result.{IfOk-weaker}
use Rattle.sd_commands.specs.Answer.{answer_of}
use Rattle.sd_questions.specs.TextAnswer.{IsBadOption}
use Rattle.sd_questions.proofs.text_answer.bad_value.Goals as goal

pub returns-in_ok-reason-in-NoDomain : goal.returns-in_ok-reason-in-NoDomain
returns-in_ok-reason-in-NoDomain c = rw (c.in-NoDomain.is) (IfOk-weaker c.bad_option.result _ _ (λ answer is. (
  string_bytes c.in_ok-reason-in-NoDomain.reason,
  c.in_ok-reason-in-NoDomain.ensures,
  subst (λ reason. IsBadOption (codes "domain") reason (answer_of answer)) c.as_str.ensures.value is,
)) c.bad_option.ensures)

pub returns-in_ok-reason-in-NoConcern : goal.returns-in_ok-reason-in-NoConcern
returns-in_ok-reason-in-NoConcern c = rw (c.in-NoConcern.is) (IfOk-weaker c.bad_concern.result _ _ (λ answer is. (
  string_bytes c.in_ok-reason-in-NoConcern.reason,
  c.in_ok-reason-in-NoConcern.ensures,
  rw c.as_str-in-NoConcern.ensures.value at is,
)) c.bad_concern.ensures)

pub returns-in_ok-reason-in-NoSelf : goal.returns-in_ok-reason-in-NoSelf
returns-in_ok-reason-in-NoSelf c = rw (c.in-NoSelf.is) (IfOk-weaker c.bad_option-in-NoSelf.result _ _ (λ answer is. (
  string_bytes c.in_ok-reason-in-NoSelf.reason,
  c.in_ok-reason-in-NoSelf.ensures,
  subst (λ reason. IsBadOption (codes "self") reason (answer_of answer)) c.as_str-in-NoSelf.ensures.value is,
)) c.bad_option-in-NoSelf.ensures)
