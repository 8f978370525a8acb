use Rattle.std.proofs.Common.{rules}
use Rattle.std.proofs.lemmas.Str.Pattern.{split_once_first}
use Rattle.sd_line.proofs.Cuts.{none_cut, some_cut}
use Rattle.sd_schema.proofs.texts.first_node.Goals as goal

pub returns-clause-cut : goal.returns-clause-cut
returns-clause-cut c = some_cut 44 c.args.text.now c.split_once.result (split_once_first 44 c.args.text.now c.split_once.result c.split_once.ensures.cases (search rules))

pub returns-clause-whole : goal.returns-clause-whole
returns-clause-whole c = none_cut 44 c.args.text.now c.split_once.result (split_once_first 44 c.args.text.now c.split_once.result c.split_once.ensures.cases (search rules))
