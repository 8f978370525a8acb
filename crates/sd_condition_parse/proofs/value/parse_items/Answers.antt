-- Each turn is a step.
use Rattle.sd_condition_parse.proofs.Cited.{[], arith, err_from_is_err_and, item_step}
use Rattle.sd_condition_parse.proofs.Repeated.{left_done, left_more, left_refused}
use Rattle.sd_condition_parse.proofs.value.parse_items.Goals as goal

pub returns-in_err-push_item-clause-items : goal.returns-in_err-push_item-clause-items
returns-in_err-push_item-clause-items c =
    let p = err_from_is_err_and c.from_residual.result c.from_residual.ensures.1 in
    rw (p.1, p.2) (left_refused (item_step c.args.kind c.args.known) [] c.args.cursor.now.rest.now c.in_err-push_item.field-0.0 c.items.values.items c.items.cursor.rest.now c.push_item.new.cursor.rest.now c.items.invariant c.in_err-push_item.ensures.item)

pub items-preserved : goal.items-preserved
items-preserved c =
    let made = rw c.if-branch.true at c.in_ok-push_item.ensures.item in
    left_more (item_step c.args.kind c.args.known) [] c.args.cursor.now.rest.now c.items.values.items c.items.cursor.rest.now c.push_item.new.values.items c.push_item.new.cursor.rest.now c.items.invariant made c.in_ok-push_item.ensures.shorter

pub returns-clause-items : goal.returns-clause-items
returns-clause-items c =
    let made = rw c.if-branch.false at c.in_ok-push_item.ensures.item in
    left_done (item_step c.args.kind c.args.known) [] c.args.cursor.now.rest.now c.items.values.items c.items.cursor.rest.now c.push_item.new.values.items c.push_item.new.cursor.rest.now c.items.invariant made

pub returns-clause-within : goal.returns-clause-within
returns-clause-within c =
    let before = c.items.invariant.within in
    let last = c.in_ok-push_item.ensures.within in
    omega arith
