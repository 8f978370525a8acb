use Rattle.std.proofs.Common.{ap, ◌∙◌}
use Rattle.std.specs.Prelude.{not}
use Rattle.sd_types.proofs.Lists.{any_viewed}
use Rattle.sd_types.specs.Tree.{is_below}
use Rattle.sd_types.proofs.tree.is_leaf.Goals as goal

pub returns : goal.returns
returns c = ap not (c.has_below.ensures ∙ any_viewed (λ other. other.items) (is_below c.args.chain.now) c.args.chains.now)
