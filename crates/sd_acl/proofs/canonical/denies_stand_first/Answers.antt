-- From the first of them on there is none of the others.
use Rattle.std.proofs.Common.{◌∙◌, refl, rules, tests}
use Rattle.std.proofs.lemmas.Iterator.{YieldsList-from_slice}
use Rattle.std.proofs.lemmas.Iterator.Adapters.{YieldsList-from_skip_while}
use Rattle.std.proofs.lemmas.Iterator.Search.{all_from_yields_List}
use Rattle.sd_acl.specs.Canonical.{deny_behind_allow, allows, denies}
use Rattle.sd_acl.proofs.FromFirst.{rest_passes}
use Rattle.sd_acl.proofs.canonical.denies_stand_first.Goals as goal

pub returns : goal.returns
returns c =
    all_from_yields_List allows _ _ c.all.result c.all.ensures.ran
    (YieldsList-from_skip_while _ _ _ denies _ (λ x b r k. search (rules, tests)) (YieldsList-from_slice c.args.entries.now cc) c.skip_while.ensures.closure c.skip_while.ensures.done_skipping)
    (λ x b r k. search (rules, tests))
    ∙ rest_passes deny_behind_allow allows refl (λ _ _. refl) c.args.entries.now
