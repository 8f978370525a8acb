use Rattle.sd_text.proofs.Cited.{arith, digit_value, digits_more, digits_value_more, get_or, length, refl, sym, ◌<◌, ◌≡◌}
use Rattle.sd_text.proofs.Runs.{digits_stop, digits_whole, short_fits}
use Rattle.sd_text.proofs.cursor.short_run_of.Goals as goal

pub returns-in_default-clause-len : goal.returns-in_default-clause-len
returns-in_default-clause-len c = digits_stop c.args.radix c.args.text.now c.loop-i.i (omega arith) c.loop-i.invariant.digits (let h = c.in_default.ensures.value in rw (sym c.from.ensures) (omega (arith, h)))

pub overflow_mul-value : goal.overflow_mul-value
overflow_mul-value c =
    let below : c.in-Some.digit < c.args.radix = omega (arith, c.in-Some.ensures.value) in
    let fits = short_fits c.args.radix c.loop-i.i c.args.text.now c.loop-i.value c.in-Some.digit c.requires.high c.requires.low c.loop-i-test.true c.requires.short c.loop-i.invariant.digits c.loop-i.invariant.value below in
    record { fits = rw c.from-in-loop-i.ensures (omega arith) }

pub overflow_add-value : goal.overflow_add-value
overflow_add-value c =
    let below : c.in-Some.digit < c.args.radix = omega (arith, c.in-Some.ensures.value) in
    let fits = short_fits c.args.radix c.loop-i.i c.args.text.now c.loop-i.value c.in-Some.digit c.requires.high c.requires.low c.loop-i-test.true c.requires.short c.loop-i.invariant.digits c.loop-i.invariant.value below in
    record { fits = rw (c.from-in-loop-i.ensures, c.from-in-loop-i-2.ensures) fits }

pub loop-i-preserved : goal.loop-i-preserved
loop-i-preserved c =
    let text = c.args.text.now in
    let is : c.in-Some.digit ≡ digit_value (get_or text c.loop-i.i 0) = rw (sym c.from.ensures) c.in-Some.ensures.value.1 in
    let below : digit_value (get_or text c.loop-i.i 0) < c.args.radix = rw (sym c.from.ensures) c.in-Some.ensures.value.0 in
    record {
      digits = digits_more c.args.radix text c.loop-i.i c.loop-i-test.true c.loop-i.invariant.digits below;
      value = rw (c.from-in-loop-i.ensures, c.from-in-loop-i-2.ensures, digits_value_more c.args.radix text c.loop-i.i c.loop-i-test.true, sym is, sym c.loop-i.invariant.value) refl;
    }

pub returns-clause-len : goal.returns-clause-len
returns-clause-len c = digits_whole c.args.radix c.args.text.now (let same : c.loop-i.i ≡ length c.args.text.now = omega arith in let h = c.loop-i.invariant.digits in rw same at h)
