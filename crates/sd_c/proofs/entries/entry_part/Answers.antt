use Rattle.sd_c.proofs.Cited.{descriptor_of, err_from_is_err_and, rules}
use Rattle.sd_c.proofs.entries.entry_part.Goals as goal

pub returns-in_err-sid_bytes-in-Some-clause-err : goal.returns-in_err-sid_bytes-in-Some-clause-err
returns-in_err-sid_bytes-in-Some-clause-err c =
    let p = err_from_is_err_and c.from_residual.result c.from_residual.ensures.1 in
    rw (p.1, p.2) (descriptor_of c.deref.result.now, search rules, search rules)

pub returns-in_ok-sid_bytes-in-Some-clause-ok : goal.returns-in_ok-sid_bytes-in-Some-clause-ok
returns-in_ok-sid_bytes-in-Some-clause-ok c = (descriptor_of c.deref.result.now, search rules, search rules, search rules)

pub returns-in-None-clause-err : goal.returns-in-None-clause-err
returns-in-None-clause-err c = (descriptor_of c.deref.result.now, search rules, search rules)
