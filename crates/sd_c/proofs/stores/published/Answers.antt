use Rattle.std.proofs.Common.{rules}
use Rattle.sd_c.proofs.stores.published.Goals as goal

pub returns : goal.returns
returns c = (c.in-Store.store.value, search rules, search rules, search rules, search rules)
