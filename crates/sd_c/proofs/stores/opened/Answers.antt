use Rattle.sd_c.proofs.Cited.{HasNode, IsNotBegun, err_from_is_err_and, inl, inr, opening_within, refl, root_refusal, rules, subst, sym}
use Rattle.sd_c.proofs.Reasons.{told_reason}
use Rattle.sd_c.proofs.stores.opened.Goals as goal

pub returns-in_default-clause-err : goal.returns-in_default-clause-err
returns-in_default-clause-err c =
    let root = c.in_ok-root.root in
    inr (inl ((root.owner, root.group, root.dacl, search rules), search rules, refl))

pub returns-in_err-limits-clause-err : goal.returns-in_err-limits-clause-err
returns-in_err-limits-clause-err c =
    let root = c.in_ok-root.root in
    let p = err_from_is_err_and c.from_residual-in_err-limits.result c.from_residual-in_err-limits.ensures.1 in
    let has_node : HasNode c.args.root.now = (root.owner, root.group, root.dacl, search rules) in
    rw (p.1, p.2) (inr (inr (inl (c.in_err-limits.field-0.0, has_node, search rules, search rules, refl))))

pub returns-clause-err : goal.returns-clause-err
returns-clause-err c =
    let opening = opening_within c.in-Ok.mapping c.in_ok-root.root c.in_ok-limits.field-0 in
    let reason = told_reason c.in-Err.e (root_refusal opening) c.in-Err.ensures.refused in
    subst (IsNotBegun c.args.root.now c.args.mapping c.args.limits) (sym c.reason_of.ensures)
    (inr (inr (inr (opening, search rules, reason))))
