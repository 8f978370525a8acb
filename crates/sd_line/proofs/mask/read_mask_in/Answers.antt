use Rattle.sd_line.proofs.mask.read_mask_in.Goals as goal

pub returns-in-Number-clause-spelled : goal.returns-in-Number-clause-spelled
returns-in-Number-clause-spelled c = λ mask is. c.read_mask.ensures.spelled mask (rw c.in-Number.is at is)
