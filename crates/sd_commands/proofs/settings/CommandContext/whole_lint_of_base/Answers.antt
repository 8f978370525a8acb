use Rattle.sd_commands.proofs.Cited.{IfOk-weaker, inl}
use Rattle.sd_commands.proofs.settings.CommandContext.whole_lint_of_base.Goals as goal

pub returns-in-Ok : goal.returns-in-Ok
returns-in-Ok c = IfOk-weaker c.unhidden_findings.result _ _
    (λ answer is. inl (c.in-Ok.groups.items, c.in-Ok.ensures.base, rw c.deref.ensures.value at is))
    c.unhidden_findings.ensures
