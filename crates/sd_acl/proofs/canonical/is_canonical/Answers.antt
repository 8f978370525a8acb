-- From the first allow on there is no deny among the explicit entries.
use Rattle.std.proofs.Common.{◌≡◌, ◌∙◌, not, refl, filter, rules, tests}
use Rattle.std.proofs.lemmas.Iterator.{YieldsList-from_slice}
use Rattle.std.proofs.lemmas.Iterator.Consumers.{YieldsList-from_filter}
use Rattle.std.proofs.lemmas.Iterator.Adapters.{YieldsList-from_skip_while}
use Rattle.std.proofs.lemmas.Iterator.Search.{all_from_yields_List}
use Rattle.sd_acl.specs.Canonical.{deny_behind_allow, allows, denies, is_explicit}
use Rattle.sd_acl.proofs.FromFirst.{rest_passes}
use Rattle.sd_acl.proofs.canonical.is_canonical.Goals as goal

pub returns-then-explicit_stand_first : goal.returns-then-explicit_stand_first
returns-then-explicit_stand_first c =
    let ordered : c.all.result ≡ not (deny_behind_allow (filter is_explicit c.args.entries.now)) =
    all_from_yields_List allows _ _ c.all.result c.all.ensures.ran
    (YieldsList-from_skip_while _ _ _ denies _ (λ x b r k. search (rules, tests))
    (YieldsList-from_filter _ is_explicit (YieldsList-from_slice c.args.entries.now cc) c.filter-explicit.ensures.closure (λ x b r k. search (rules, tests)))
    c.skip_while.ensures.closure c.skip_while.ensures.done_skipping)
    (λ x b r k. search (rules, tests))
    ∙ rest_passes deny_behind_allow allows refl (λ _ _. refl) (filter is_explicit c.args.entries.now) in
    search (rules, ordered)
