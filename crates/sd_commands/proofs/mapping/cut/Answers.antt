use Rattle.sd_commands.proofs.Cited.{none_cut, rules, some_cut, split_once_first}
use Rattle.sd_commands.proofs.mapping.cut.Goals as goal

pub returns-clause-cut : goal.returns-clause-cut
returns-clause-cut c = some_cut 44 c.args.text.now c.split_once.result (split_once_first 44 c.args.text.now c.split_once.result c.split_once.ensures.cases (search rules))

pub returns-clause-whole : goal.returns-clause-whole
returns-clause-whole c = none_cut 44 c.args.text.now c.split_once.result (split_once_first 44 c.args.text.now c.split_once.result c.split_once.ensures.cases (search rules))
