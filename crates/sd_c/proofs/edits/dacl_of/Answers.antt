use Rattle.sd_c.proofs.Cited.{descriptor_of, err_from_is_err_and, inr, own_dacl, refl, rules}
use Rattle.sd_c.proofs.edits.dacl_of.Goals as goal

pub returns-in_err-of_descriptor-in-None-None-clause-err : goal.returns-in_err-of_descriptor-in-None-None-clause-err
returns-in_err-of_descriptor-in-None-None-clause-err c =
    let d = descriptor_of c.in_ok-descriptor.descriptor in
    let p = err_from_is_err_and c.from_residual-in_err-of_descriptor-in-None-None.result c.from_residual-in_err-of_descriptor-in-None-None.ensures.1 in
    rw (p.1, p.2) (inr (own_dacl d.protected d.dacl, (d, search rules, search rules, search rules, refl)))
