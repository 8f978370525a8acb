use Rattle.sd_c.proofs.Cited.{descriptor_of, err_from_is_err_and, inr, refl, rules}
use Rattle.sd_c.proofs.Reasons.{there_too}
use Rattle.sd_c.proofs.nodes.own_in.Goals as goal

pub returns-in_ok-write_descriptor-in-Some-clause-ok : goal.returns-in_ok-write_descriptor-in-Some-clause-ok
returns-in_ok-write_descriptor-in-Some-clause-ok c = (descriptor_of c.in-Some.descriptor, search rules, search rules)

pub returns-in_err-kind-clause-err : goal.returns-in_err-kind-clause-err
returns-in_err-kind-clause-err c =
    let p = err_from_is_err_and c.from_residual.result c.from_residual.ensures.1 in
    rw (p.1, p.2) (inr (there_too _ _ c.in_err-kind.ensures.memory, refl))
