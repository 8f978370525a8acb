use Rattle.sd_text.proofs.sid.read_sid_text.Goals as goal

pub returns-clause-spelled : goal.returns-clause-spelled
returns-clause-spelled c sid spells = c.read_sid_text_in.ensures.spelled sid (rw c.in_domain.ensures spells)
