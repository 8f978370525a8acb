use Rattle.std.specs.Prelude.{codes}
use Rattle.sd_acl.specs.Descriptor.{descriptor_of}
use Rattle.sd_commands.proofs.Cited.{IfOk-weaker, answer_of, ap, subst, ◌∙◌, false}
use Rattle.sd_commands.proofs.Everyone.{taken}
use Rattle.sd_commands.specs.Answer.{IsTold}
use Rattle.sd_commands.specs.CommandAnswer.{AnswersOfBase, AnswersUnhidden}
use Rattle.sd_commands.specs.Diagnostic.{all_left_out, sacl_note}
use Rattle.sd_commands.specs.ForEveryone.{IsOfEveryone}
use Rattle.sd_acl.specs.declared.descriptor.DaclOf.TheVariants.{Absent}
use Rattle.sd_commands.specs.ObjectTypes.{NotingTypes, has_types, types_left_out, types_note}
use Rattle.sd_commands.specs.WholeLint.{AnswersWholeFindings}
use Rattle.sd_specialize.specs.Marked.{conditionals}
use Rattle.sd_commands.proofs.settings.CommandContext.whole_lint.Goals as goal

pub returns : goal.returns
returns c =
    let settings = c.args.self.now.settings.now in
    let words = c.args.words.now in
    let plain = c.in-Plain.plain in
    let first = answer_of c.in_ok-answer.answer in
    let inner = answer_of c.in_ok-answer-2.answer in
    let left_out = c.in_ok-left_out.ensures ∙ ap (types_left_out settings) c.has_types-depends.ensures in
    IfOk-weaker c.note_left_out_sacl.result _ _
    (λ noted told. taken (codes "SDDL") all_left_out Absent settings c.args.sddl.now
    (λ whole d. NotingTypes settings (has_types false whole.dacl) (λ lines. AnswersOfBase settings words
    (λ base. AnswersUnhidden (conditionals whole.dacl) base (AnswersWholeFindings settings whole lines d base))))
    (answer_of noted) plain inner
    (subst (IsOfEveryone (codes "SDDL") all_left_out Absent settings c.args.sddl.now) c.in-Plain.is c.in_ok-plain.ensures) (
      first,
      subst (λ depends. IsTold (types_note settings depends) first inner) c.has_types-depends.ensures c.in_ok-answer-2.ensures,
      subst (λ lines. AnswersOfBase settings words (λ base. AnswersUnhidden (conditionals plain.whole.dacl) base
          (AnswersWholeFindings settings plain.whole lines (descriptor_of plain.descriptor) base)) first) left_out
          c.in_ok-answer.ensures,
    )
    (subst (λ is_there. IsTold (sacl_note (codes "SDDL") all_left_out is_there) inner (answer_of noted)) c.has_sacl-is_there.ensures told))
    c.note_left_out_sacl.ensures
