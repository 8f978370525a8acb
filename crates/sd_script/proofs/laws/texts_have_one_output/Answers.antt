use Rattle.sd_script.proofs.OneOutput.{has_one_output}
use Rattle.sd_script.proofs.laws.texts_have_one_output.Goals as goal

pub returns : goal.returns
returns c = has_one_output
