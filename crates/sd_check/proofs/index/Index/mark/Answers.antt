use Rattle.std.proofs.Common.{rules}
use Rattle.sd_check.proofs.Chains.{keeps_marked}
use Rattle.sd_check.proofs.index.Index.mark.Goals as goal

pub returns-clause-kept : goal.returns-clause-kept
returns-clause-kept c = keeps_marked c.args.self.now.heads c.args.self.now.nexts c.args.place (search rules)
