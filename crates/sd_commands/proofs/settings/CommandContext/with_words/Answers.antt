use Rattle.sd_commands.proofs.Cited.{IfOk-weaker}
use Rattle.sd_commands.proofs.settings.CommandContext.with_words.Goals as goal

pub returns-in-Plain : goal.returns-in-Plain
returns-in-Plain c = rw c.in-Plain.is (IfOk-weaker c.for_token.result _ _
    (λ answer is. (c.deref.result.now, rw c.deref.ensures.value c.in_ok-words.ensures, is))
    c.for_token.ensures)
