use Rattle.sd_commands.proofs.Cited.{ap, result_ok, ◌∙◌}
use Rattle.sd_commands.proofs.mapping.mask_in.Goals as goal

pub returns-clause-spelled : goal.returns-clause-spelled
returns-clause-spelled c = λ mask is. c.ok.ensures.value ∙ ap (λ r. result_ok r) (c.read_mask.ensures.spelled mask is)
