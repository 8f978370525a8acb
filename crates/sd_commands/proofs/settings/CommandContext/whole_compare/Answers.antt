use Rattle.std.specs.Prelude.{codes}
use Rattle.sd_commands.proofs.Cited.{IfOk-weaker, answer_of, subst}
use Rattle.sd_commands.proofs.Everyone.{refused, taken}
use Rattle.sd_commands.specs.Answer.{IsTold}
use Rattle.sd_commands.specs.CommandAnswer.{AnswersCompareTo}
use Rattle.sd_commands.specs.Diagnostic.{all_but_label, sacl_note}
use Rattle.sd_commands.specs.ForEveryone.{IsOfEveryone}
use Rattle.sd_acl.specs.declared.descriptor.DaclOf.TheVariants.{Absent}
use Rattle.sd_commands.proofs.settings.CommandContext.whole_compare.Goals as goal

pub returns-in-Refused : goal.returns-in-Refused
returns-in-Refused c =
    let settings = c.args.self.now.settings.now in
    refused (codes "OLD") all_but_label Absent settings c.args.sddl.now
    (λ old plain_old. AnswersCompareTo settings old plain_old c.args.arguments.now)
    (answer_of c.in-Refused.answer)
    (subst (IsOfEveryone (codes "OLD") all_but_label Absent settings c.args.sddl.now) c.in-Refused.is c.in_ok-plain.ensures)

pub returns : goal.returns
returns c =
    let settings = c.args.self.now.settings.now in
    let inner = answer_of c.in_ok-answer.answer in
    IfOk-weaker c.note_sacl.result _ _
    (λ noted told. taken (codes "OLD") all_but_label Absent settings c.args.sddl.now
    (λ old plain_old. AnswersCompareTo settings old plain_old c.args.arguments.now)
    (answer_of noted) c.in-Plain.plain inner
    (subst (IsOfEveryone (codes "OLD") all_but_label Absent settings c.args.sddl.now) c.in-Plain.is c.in_ok-plain.ensures) c.in_ok-answer.ensures
    (subst (λ left_out. IsTold (sacl_note (codes "OLD") all_but_label left_out) inner (answer_of noted)) c.has_sacl-is_there.ensures told))
    c.note_sacl.ensures
