-- What holds of each question about these object types holds of the one where no condition is known.
use Rattle.sd_commands.proofs.Cited.{descriptor_of, refl, subst, sym}
use Rattle.sd_specialize.specs.Marked.{lent_marks, marked}
use Rattle.sd_specialize.specs.Specialize.{Gives}
use Rattle.sd_commands.specs.WholeVerdict.{everyone_context}
use Rattle.sd_commands.proofs.settings.CommandContext.marked.Goals as goal

pub returns : goal.returns
returns c =
    let context = everyone_context c.args.self.now.settings.now in
    subst (λ marks. Gives descriptor_of c.marked_for_everyone.result (marked context marks c.args.descriptor.now)) c.in_ok-marks.ensures
    (subst (λ marks. Gives descriptor_of c.marked_for_everyone.result (marked context (lent_marks marks) c.args.descriptor.now)) c.deref.ensures.value
    (c.marked_for_everyone.ensures.exact context (sym c.types-chain.ensures) refl))
