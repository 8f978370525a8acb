use Rattle.sd_commands.proofs.Cited.{IfOk-weaker, string_bytes}
use Rattle.sd_commands.proofs.settings.CommandContext.client_fault.Goals as goal

pub returns : goal.returns
returns c = IfOk-weaker c.token_fault.result _ _ (λ answer is. (
  c.args.place,
  c.requires.first,
  string_bytes c.in_ok-reason.reason,
  rw c.argument-word.ensures at c.in_ok-reason.ensures,
  rw (c.as_str.ensures.value, c.argument-word.ensures) at is,
)) c.token_fault.ensures
