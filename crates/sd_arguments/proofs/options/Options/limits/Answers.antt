-- The nodes fit into limits without edits.
use Rattle.std.proofs.Common.{arith}
use Rattle.std.proofs.lemmas.Grind.{common_steps}
use Rattle.sd_arguments.proofs.options.Options.limits.Goals as goal

pub returns-in-Err-TooManyEdits : goal.returns-in-Err-TooManyEdits
returns-in-Err-TooManyEdits c =
    ((record { nodes = c.number_given-nodes.result; edits = 0 }, grind (arith, common_steps)), grind (arith, common_steps))
