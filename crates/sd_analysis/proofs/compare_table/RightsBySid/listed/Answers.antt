use Rattle.sd_analysis.proofs.Tables.{listed_made}
use Rattle.sd_analysis.proofs.compare_table.RightsBySid.listed.Goals as goal

pub returns : goal.returns
returns c =
    listed_made c.args.self.now c.args.place c.index-own.result.now c.requires c.index-own.ensures c.common.result c.union.result c.common.ensures c.union.ensures
