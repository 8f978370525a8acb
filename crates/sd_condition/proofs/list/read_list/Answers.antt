-- Each turn reads the next value, or ends without one.
use Rattle.sd_condition.proofs.Cited.{err_from_is_err_and, list_read, sym, value_read, ◌∙◌}
use Rattle.sd_condition.proofs.Loop.{bad_value, next_value, some_left, values_done}
use Rattle.sd_data.proofs.Loop.{refused}
use Rattle.sd_condition.proofs.list.read_list.Goals as goal

pub returns-in_err-value : goal.returns-in_err-value
returns-in_err-value c =
    let p = err_from_is_err_and c.from_residual.result c.from_residual.ensures.1 in
    let more = some_left c.loop-rest.rest.now (sym c.is_empty.ensures ∙ c.loop-rest-test.true) in
    rw (p.1, p.2) (refused c.in_err-value.field-0.0 (value_read c.loop-rest.rest.now) (list_read c.args.bytes.now) c.in_err-value.ensures.read
    (bad_value c.args.bytes.now c.loop-rest.rest.now c.loop-rest.values.items more c.loop-rest.invariant))

pub loop-rest-preserved : goal.loop-rest-preserved
loop-rest-preserved c =
    let more = some_left c.loop-rest.rest.now (sym c.is_empty.ensures ∙ c.loop-rest-test.true) in
    rw c.in_ok-push.ensures.items (next_value c.args.bytes.now c.loop-rest.rest.now c.loop-rest.values.items c.in_ok-value.value c.in_ok-value.size more c.in_ok-value.ensures.size.0 c.in_ok-value.ensures.size.1 c.in_ok-value.ensures.read c.loop-rest.invariant)

pub returns : goal.returns
returns c =
    values_done c.args.bytes.now c.loop-rest.rest.now c.loop-rest.values.items (sym c.is_empty.ensures ∙ c.loop-rest-test.false) c.loop-rest.invariant
