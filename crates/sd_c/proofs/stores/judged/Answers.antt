use Rattle.std.proofs.Common.{rules, inr, refl}
use Rattle.sd_edit.specs.declared.refusal.TreeError.TheVariants as errors
use Rattle.sd_c.proofs.stores.judged.Goals as goal

pub returns-in-None-clause-ok : goal.returns-in-None-clause-ok
returns-in-None-clause-ok c = (c.in-Store.store.value, c.in_ok-edit.edit, search rules, search rules, search rules)

pub returns-clause-err : goal.returns-clause-err
returns-clause-err c =
    inr (inr (
      c.in-Store.store.value,
      c.in_ok-edit.edit,
      search rules,
      search rules,
      (errors.Refused c.in-Some.refusal, search rules, refl),
    ))
