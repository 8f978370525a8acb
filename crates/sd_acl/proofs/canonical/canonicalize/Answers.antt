-- The denies are put into the empty list, and the allows behind them.
use Rattle.std.proofs.Common.{rules, tests, arith}
use Rattle.std.proofs.lemmas.Iterator.{YieldsList-from_slice}
use Rattle.std.proofs.lemmas.Iterator.Consumers.{YieldsList-from_filter, YieldsList-from_copied}
use Rattle.std.proofs.lemmas.Iterator.Adapters.{items_from_extend}
use Rattle.std.proofs.lemmas.Grind.{common_steps}
use Rattle.sd_acl.specs.Canonical.{allows, denies}
use Rattle.sd_acl.proofs.canonical.canonicalize.Goals as goal

pub returns : goal.returns
returns c =
    let first = items_from_extend c.extend.result c.extend.ensures.ran (YieldsList-from_copied (YieldsList-from_filter _ denies (YieldsList-from_slice c.args.entries.now cc) c.filter.ensures.closure (λ x b r k. search (rules, tests)))) in
    let second = items_from_extend c.extend-2.result c.extend-2.ensures.ran (YieldsList-from_copied (YieldsList-from_filter _ allows (YieldsList-from_slice c.args.entries.now cc) c.filter-2.ensures.closure (λ x b r k. search (rules, tests)))) in
    grind (arith, common_steps, first, second)
