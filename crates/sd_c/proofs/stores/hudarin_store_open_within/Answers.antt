use Rattle.sd_c.proofs.Cited.{Begins, Limited, subst}
use Rattle.sd_c.proofs.stores.hudarin_store_open_within.Goals as goal

pub returns : goal.returns
returns c =
    let Right : Limited → Type 0 = λ limits. Begins c.args.root.now c.args.mapping limits c.args.store.now c.begun.new.store c.begun.result in
    subst Right c.new.ensures c.begun.ensures
