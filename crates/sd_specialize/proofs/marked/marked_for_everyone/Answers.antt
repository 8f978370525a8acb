-- No condition is asked, so each question about these object types has the same descriptor.
use Rattle.std.proofs.Common.{subst}
use Rattle.std.specs.Prelude.{Result}
use Rattle.sd_acl.specs.Descriptor.{DescriptorValue, descriptor_of}
use Rattle.sd_specialize.specs.Marked.{lent_marks}
use Rattle.sd_specialize.specs.Specialize.{Gives}
use Rattle.sd_specialize.specs.declared.fault.SpecializeFault.{SpecializeFault}
use Rattle.sd_specialize.proofs.Alike.{marked_alike}
use Rattle.std.proofs.Common.{sym}
use Rattle.sd_specialize.proofs.marked.marked_for_everyone.Goals as goal

pub returns-clause-exact : goal.returns-clause-exact
returns-clause-exact c k types self =
    subst (λ (found : Result DescriptorValue SpecializeFault). Gives descriptor_of c.marked.result found)
    (marked_alike _ k (sym types) (sym self) (lent_marks c.args.marks.now) c.args.descriptor.now) c.marked.ensures.exact
