use Rattle.std.specs.Prelude.{codes, drop}
use Rattle.sd_acl.specs.Descriptor.{descriptor_of}
use Rattle.sd_commands.proofs.Cited.{IfOk-weaker, answer_of, subst}
use Rattle.sd_commands.proofs.Everyone.{refused, taken}
use Rattle.sd_commands.specs.Answer.{IsTold}
use Rattle.sd_commands.specs.CommandAnswer.{AnswersCompareOfBoth, argument}
use Rattle.sd_commands.specs.Diagnostic.{all_but_label, sacl_note}
use Rattle.sd_commands.specs.ForEveryone.{IsOfEveryone}
use Rattle.sd_commands.proofs.settings.CommandContext.compare_to.Goals as goal

pub returns-in-Refused : goal.returns-in-Refused
returns-in-Refused c =
    let settings = c.args.self.now.settings.now in
    let before = c.args.old.whole.dacl in
    refused (codes "NEW") all_but_label before settings (argument c.args.arguments.now 0)
    (λ new plain_new. AnswersCompareOfBoth settings c.args.old.whole (descriptor_of c.args.old.descriptor) new plain_new (drop 1 c.args.arguments.now))
    (answer_of c.in-Refused.answer)
    (subst (IsOfEveryone (codes "NEW") all_but_label before settings (argument c.args.arguments.now 0)) c.in-Refused.is
    (subst (λ text. IsOfEveryone (codes "NEW") all_but_label before settings text c.in_ok-plain.field-0) c.argument-text.ensures c.in_ok-plain.ensures))

pub returns : goal.returns
returns c =
    let settings = c.args.self.now.settings.now in
    let old = c.args.old in
    let new = c.in-Plain.plain in
    let before = old.whole.dacl in
    let inner = answer_of c.in_ok-answer.answer in
    IfOk-weaker c.note_sacl.result _ _
    (λ noted told. taken (codes "NEW") all_but_label before settings (argument c.args.arguments.now 0)
    (λ whole plain. AnswersCompareOfBoth settings old.whole (descriptor_of old.descriptor) whole plain (drop 1 c.args.arguments.now))
    (answer_of noted) new inner
    (subst (IsOfEveryone (codes "NEW") all_but_label before settings (argument c.args.arguments.now 0)) c.in-Plain.is
    (subst (λ text. IsOfEveryone (codes "NEW") all_but_label before settings text c.in_ok-plain.field-0) c.argument-text.ensures c.in_ok-plain.ensures))
    (subst (λ words. AnswersCompareOfBoth settings old.whole (descriptor_of old.descriptor) new.whole (descriptor_of new.descriptor) words inner)
    c.items_from.ensures.rest c.in_ok-answer.ensures)
    (subst (λ left_out. IsTold (sacl_note (codes "NEW") all_but_label left_out) inner (answer_of noted)) c.has_sacl-is_there.ensures told))
    c.note_sacl.ensures
