use Rattle.sd_label.proofs.Labels.{taken_by_steps}
use Rattle.sd_label.proofs.label.taken_by_policy.Goals as goal

pub returns : goal.returns
returns c =
    let left = simp (c.only_if.ensures, c.only_if-2.ensures, c.only_if-3.ensures, c.map-write.ensures, c.map-read.ensures, c.map-execute.ensures, c.holds.ensures, c.holds-2.ensures, c.holds-3.ensures)
    at c.joined-left.ensures in
    taken_by_steps c.args.mapping.now c.args.policy c.joined-left.result c.minus.result left c.minus.ensures
