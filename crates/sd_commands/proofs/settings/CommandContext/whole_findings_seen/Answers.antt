-- The findings are of the descriptor as it is looked at.
use Rattle.sd_commands.proofs.Cited.{IfOk-weaker, answer_of, subst}
use Rattle.sd_commands.specs.Answer.{IsTold}
use Rattle.sd_commands.specs.Diagnostic.{object_note}
use Rattle.sd_commands.specs.WholeLint.{PrintsWholeFindings}
use Rattle.sd_commands.proofs.settings.CommandContext.whole_findings_seen.Goals as goal

pub returns : goal.returns
returns c =
    let settings = c.args.self.now.settings.now in
    let inner = answer_of c.in_ok-answer.answer in
    IfOk-weaker c.note_object.result _ _ (λ answer is. (
      inner,
      subst (λ left_out. IsTold (object_note left_out) inner (answer_of answer)) c.leaves_out-passed_on.ensures is,
      subst (λ d. PrintsWholeFindings settings c.args.whole.now c.args.left_out.items d c.args.groups.now inner) c.in_ok-seen.ensures
          c.in_ok-answer.ensures,
    )) c.note_object.ensures
