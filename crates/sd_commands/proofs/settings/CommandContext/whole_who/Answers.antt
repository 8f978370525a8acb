use Rattle.std.specs.Prelude.{codes}
use Rattle.sd_acl.specs.Descriptor.{descriptor_of}
use Rattle.sd_commands.proofs.Cited.{IfOk-weaker, answer_of, ap, subst, ◌&&◌, ◌∙◌, false}
use Rattle.sd_commands.proofs.Everyone.{taken}
use Rattle.sd_commands.specs.Answer.{IsTold}
use Rattle.sd_commands.specs.Chain.{types_of}
use Rattle.sd_commands.specs.CommandAnswer.{AnswersWho}
use Rattle.sd_commands.specs.Diagnostic.{all_left_out, sacl_note}
use Rattle.sd_commands.specs.ForEveryone.{IsOfEveryone}
use Rattle.sd_acl.specs.declared.descriptor.DaclOf.TheVariants.{Absent}
use Rattle.sd_commands.specs.ObjectTypes.{NotingTypes, has_types, is_of_whole, types_left_out, types_note}
use Rattle.sd_specialize.specs.Marked.{conditionals, lent_marks}
use Rattle.sd_commands.proofs.settings.CommandContext.whole_who.Goals as goal

pub returns : goal.returns
returns c =
    let settings = c.args.self.now.settings.now in
    let arguments = c.args.arguments.now in
    let plain = c.in-Plain.plain in
    let first = answer_of c.in_ok-answer.answer in
    let inner = answer_of c.in_ok-answer-2.answer in
    let left_out = c.in_ok-left_out.ensures ∙ ap (types_left_out settings) c.who_has_types-depends.ensures in
    IfOk-weaker c.note_left_out_sacl.result _ _
    (λ noted told. taken (codes "SDDL") all_left_out Absent settings c.args.sddl.now
    (λ whole d. NotingTypes settings (has_types false whole.dacl && is_of_whole (types_of settings.chain)) (λ lines. AnswersWho settings (conditionals whole.dacl) lines arguments d))
    (answer_of noted) plain inner
    (subst (IsOfEveryone (codes "SDDL") all_left_out Absent settings c.args.sddl.now) c.in-Plain.is c.in_ok-plain.ensures) (
      first,
      subst (λ depends. IsTold (types_note settings depends) first inner) c.who_has_types-depends.ensures c.in_ok-answer-2.ensures,
      subst (λ lines. AnswersWho settings (conditionals plain.whole.dacl) lines arguments (descriptor_of plain.descriptor) first) left_out
          (subst (λ marks. AnswersWho settings marks c.in_ok-left_out.left_out.items arguments (descriptor_of plain.descriptor) first) c.in_ok-marks.ensures
          (subst (λ marks. AnswersWho settings (lent_marks marks) c.in_ok-left_out.left_out.items arguments (descriptor_of plain.descriptor) first)
          c.deref.ensures.value c.in_ok-answer.ensures)),
    )
    (subst (λ is_there. IsTold (sacl_note (codes "SDDL") all_left_out is_there) inner (answer_of noted)) c.has_sacl.ensures told))
    c.note_left_out_sacl.ensures
