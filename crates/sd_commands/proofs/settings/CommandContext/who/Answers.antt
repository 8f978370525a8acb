use Rattle.sd_commands.proofs.Cited.{IfOk-weaker, inl, inr}
use Rattle.sd_commands.proofs.settings.CommandContext.who.Goals as goal

pub returns-in-Err-NoWord : goal.returns-in-Err-NoWord
returns-in-Err-NoWord c = IfOk-weaker c.group_fault.result _ _ (λ answer is. inl (
  c.in-Ok.asked,
  rw c.argument-mask.ensures at c.in-Ok.ensures.value,
  inr (rw c.items_from-words.ensures.rest at is),
)) c.group_fault.ensures

pub returns-in-Ok-read_base : goal.returns-in-Ok-read_base
returns-in-Ok-read_base c = IfOk-weaker c.who_has.result _ _ (λ answer is. inl (
  c.in-Ok.asked,
  rw c.argument-mask.ensures at c.in-Ok.ensures.value,
  inl (c.in-Ok-read_base.groups.items, rw c.items_from-words.ensures.rest at c.in-Ok-read_base.ensures.base, rw c.deref.ensures.value at is),
)) c.who_has.ensures
