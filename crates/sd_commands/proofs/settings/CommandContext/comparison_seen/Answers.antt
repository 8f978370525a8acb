-- The comparison is of the descriptors as they are looked at.
use Rattle.sd_commands.proofs.Cited.{IfOk-weaker, answer_of, ap, descriptor_of, subst, sym, ◌∙◌}
use Rattle.sd_specialize.specs.Marked.{lent_marks}
use Rattle.sd_commands.specs.Answer.{IsTold}
use Rattle.sd_commands.specs.CommandAnswer.{PrintsSeen}
use Rattle.sd_commands.specs.Conditions.{hides}
use Rattle.sd_commands.specs.Diagnostic.{object_note}
use Rattle.sd_commands.specs.Handed.{lent_handed}
use Rattle.sd_commands.specs.Object.{looked_at}
use Rattle.sd_commands.proofs.settings.CommandContext.comparison_seen.Goals as goal

pub returns : goal.returns
returns c =
    let settings = c.args.self.now.settings.now in
    let inner = answer_of c.in_ok-answer.answer in
    let marks = lent_marks c.args.marks.now in
    let handed = lent_handed c.args.handed in
    let of_old = subst (λ old. PrintsSeen settings marks handed c.args.last.items old (descriptor_of c.in_ok-new.new) c.args.groups.now inner) c.in_ok-old.ensures c.in_ok-answer.ensures in
    let of_both = subst (λ new. PrintsSeen settings marks handed c.args.last.items (looked_at settings.object (descriptor_of c.args.old)) new c.args.groups.now inner) c.in_ok-new.ensures of_old in
    let none = ap (λ some. hides some c.args.groups.now) (sym (c.marks_in.ensures (descriptor_of c.args.old) (descriptor_of c.args.new))) ∙ sym c.hides.ensures ∙ c.if-hides.false in
    IfOk-weaker c.note_object.result _ _ (λ answer is. rw none (
      inner,
      subst (λ left_out. IsTold (object_note left_out) inner (answer_of answer)) c.either_leaves_out-left_out.ensures is,
      of_both,
    )) c.note_object.ensures
