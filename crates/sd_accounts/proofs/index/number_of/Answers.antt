use Rattle.std.proofs.Common.{sym}
use Rattle.sd_accounts.proofs.Indexed.{grown, key_added, key_found, none_put, nothing}
use Rattle.sd_accounts.proofs.index.number_of.Goals as goal

pub returns-in-Some-clause-group : goal.returns-in-Some-clause-group
returns-in-Some-clause-group c = key_found _ c.args.group c.in-Some.number (sym c.in-Some.ensures.index)

pub returns-clause-group : goal.returns-clause-group
returns-clause-group c =
    key_added c.args.index.now c.insert_full.new.self c.args.group c.new.result c.in_ok-number.number (nothing _ c.in_default.ensures.found) (sym c.in_default.ensures.index)
    c.in_ok-number.ensures.entries c.in_ok-number.ensures.index c.in_ok-number.ensures.within

pub returns-clause-keys : goal.returns-clause-keys
returns-clause-keys c = grown c.args.index.now c.insert_full.new.self c.args.group c.new.result c.in_ok-number.ensures.entries

pub returns-clause-groups : goal.returns-clause-groups
returns-clause-groups c =
    none_put c.args.index.now c.insert_full.new.self c.args.group c.new.result c.new.ensures.items (nothing _ c.in_default.ensures.found) c.in_ok-number.ensures.updates
