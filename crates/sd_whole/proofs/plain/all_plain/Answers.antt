use Rattle.std.specs.List.{filter_map}
use Rattle.sd_whole.proofs.PlainForms.{all_listed}
use Rattle.sd_whole.specs.Plain.{plain_form}
use Rattle.sd_whole.proofs.plain.all_plain.Goals as goal

pub returns-in-Err-clause-odd : goal.returns-in-Err-clause-odd
returns-in-Err-clause-odd c = (filter_map plain_form c.args.list.now.entries, all_listed c.args.list.now.entries c.requires)
