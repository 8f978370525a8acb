-- Each turn reads the value at the next offset, or finds none.
use Rattle.sd_claim.proofs.Cited.{ap, err_from_is_err_and, sym, u32_at, u32s_at, value_at, values_read, ℕ, ◌*◌, ◌+◌, ◌∙◌}
use Rattle.sd_claim.proofs.Loop.{bad_value, next_value, values_done}
use Rattle.sd_data.proofs.Loop.{refused}
use Rattle.sd_claim.proofs.values.read_values.Goals as goal

pub returns-in_err-value-clause-err : goal.returns-in_err-value-clause-err
returns-in_err-value-clause-err c =
    let p = err_from_is_err_and c.from_residual.result c.from_residual.ensures.1 in
    let bytes = c.args.bytes.now in
    let value_type = c.args.value_type in
    let offset = u32_at bytes (16 + 4 * c.loop-k.k) in
    rw (p.1, p.2) (refused c.in_err-value.field-0.0 (value_at value_type bytes offset c.loop-k.left) (values_read value_type bytes c.args.room (u32s_at bytes 16 c.args.count))
    (rw (sym c.read_u32-place.ensures) c.in_err-value.ensures.read)
    (bad_value value_type bytes c.args.room c.args.count c.loop-k.k c.loop-k.left c.loop-k.values.items c.loop-k-test.true c.loop-k.invariant))

pub loop-k-preserved : goal.loop-k-preserved
loop-k-preserved c =
    let bytes = c.args.bytes.now in
    let value_type = c.args.value_type in
    let read = ap (λ (o : ℕ). value_at value_type bytes o c.loop-k.left) (sym c.read_u32-place.ensures) ∙ c.in_ok-value.ensures.read in
    rw c.in_ok-push.ensures.items (next_value value_type bytes c.args.room c.args.count c.loop-k.k c.loop-k.left c.loop-k.values.items c.in_ok-value.value c.in_ok-value.size c.loop-k-test.true read c.loop-k.invariant)

pub returns-clause-ok : goal.returns-clause-ok
returns-clause-ok c =
    values_done c.args.value_type c.args.bytes.now c.args.room c.args.count c.loop-k.k c.loop-k.left c.loop-k.values.items c.loop-k-test.false c.loop-k.invariant
