use Rattle.sd_blocks.proofs.Cited.{always_returns_same, rules}
use Rattle.sd_blocks.proofs.search.search_items.Goals as goal

pub returns-clause-position : goal.returns-clause-position
returns-clause-position g c =
    c.binary_search_by.ensures.position (λ y. g.S.Sought.ord c.args.sought.now y) (always_returns_same _ _ _ (λ a r f called. (search rules, search rules)))
