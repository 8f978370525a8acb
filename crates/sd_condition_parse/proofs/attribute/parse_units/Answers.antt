-- Each turn is a step.
use Rattle.sd_condition_parse.proofs.Cited.{[], arith, err_from_is_err_and, unit_step}
use Rattle.sd_condition_parse.proofs.Repeated.{left_done, left_more, left_refused}
use Rattle.sd_condition_parse.proofs.attribute.parse_units.Goals as goal

pub returns-in_err-push_unit-clause-units : goal.returns-in_err-push_unit-clause-units
returns-in_err-push_unit-clause-units c =
    let p = err_from_is_err_and c.from_residual.result c.from_residual.ensures.1 in
    rw (p.1, p.2) (left_refused unit_step [] c.args.cursor.now.rest.now c.in_err-push_unit.field-0.0 c.units.units.items c.units.cursor.rest.now c.push_unit.new.cursor.rest.now c.units.invariant c.in_err-push_unit.ensures.unit)

pub units-preserved : goal.units-preserved
units-preserved c =
    let made = rw c.if-branch.true at c.in_ok-push_unit.ensures.unit in
    left_more unit_step [] c.args.cursor.now.rest.now c.units.units.items c.units.cursor.rest.now c.push_unit.new.units.items c.push_unit.new.cursor.rest.now c.units.invariant made (c.in_ok-push_unit.ensures.shorter c.if-branch.true)

pub returns-clause-units : goal.returns-clause-units
returns-clause-units c =
    let made = rw c.if-branch.false at c.in_ok-push_unit.ensures.unit in
    left_done unit_step [] c.args.cursor.now.rest.now c.units.units.items c.units.cursor.rest.now c.push_unit.new.units.items c.push_unit.new.cursor.rest.now c.units.invariant made

pub returns-clause-within : goal.returns-clause-within
returns-clause-within c =
    let before = c.units.invariant.within in
    let last = c.in_ok-push_unit.ensures.within in
    omega arith
