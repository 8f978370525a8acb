use Rattle.sd_label.proofs.Labels.{joined_by_steps}
use Rattle.sd_label.proofs.label.joined.Goals as goal

pub returns : goal.returns
returns c = joined_by_steps c.args.one c.args.two c.args.three c.union.result c.union-2.result c.union.ensures c.union-2.ensures
