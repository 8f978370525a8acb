use Rattle.sd_text.proofs.descriptor.read_sddl.Goals as goal

pub returns-clause-spelled : goal.returns-clause-spelled
returns-clause-spelled c d spells = c.read_sddl_in.ensures.spelled d (rw c.in_domain.ensures spells)
