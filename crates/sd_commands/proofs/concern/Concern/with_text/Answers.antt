-- A text that spells another SID is none.
use Rattle.sd_commands.proofs.Cited.{inl}
use Rattle.sd_commands.proofs.concern.Concern.with_text.Goals as goal

pub returns-in-Err-clause-none : goal.returns-in-Err-clause-none
returns-in-Err-clause-none c = inl (λ sid is. let read = c.read_sid_text_in.ensures.spelled sid is.0 in cc (read))

pub returns-in-Ok-clause-none : goal.returns-in-Ok-clause-none
returns-in-Ok-clause-none c = inl (λ sid is. let read = c.read_sid_text_in.ensures.spelled sid is.0 in cc (read, is.1))
