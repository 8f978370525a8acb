use Rattle.sd_analysis.proofs.Tables.{shared}
use Rattle.sd_analysis.proofs.compare_table.DecidedRights.after.Goals as goal

pub returns : goal.returns
returns c =
    shared c.args.self c.args.mask c.args.kind c.common-decided.result c.minus-undecided.result c.only_if-more.result c.union-allowed.result c.is_allow.result
    c.common-decided.ensures c.minus-undecided.ensures c.is_allow.ensures c.only_if-more.ensures c.union-allowed.ensures
