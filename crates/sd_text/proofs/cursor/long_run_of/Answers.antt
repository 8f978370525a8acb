use Rattle.sd_text.proofs.Cited.{arith, digit_value, digits_more, digits_value, digits_value_more, get_or, length, sym, take, ◌<◌, ◌≡◌}
use Rattle.sd_text.proofs.Runs.{digits_stop, digits_whole, capped_push, capped_stay}
use Rattle.sd_text.proofs.cursor.long_run_of.Goals as goal
use Rattle.sd_text.proofs.cursor.long_run_of.Goals.{then-value-limit, else-value-limit}

pub returns-in_default-clause-len : goal.returns-in_default-clause-len
returns-in_default-clause-len c = digits_stop c.args.radix c.args.text.now c.loop-i.i (omega arith) c.loop-i.invariant.digits (let h = c.in_default.ensures.value in rw (sym c.from.ensures) (omega (arith, h)))

pub loop-i-preserved : goal.loop-i-preserved
loop-i-preserved c =
    let text = c.args.text.now in
    let is : c.in-Some.digit ≡ digit_value (get_or text c.loop-i.i 0) = rw (sym c.from.ensures) c.in-Some.ensures.value.1 in
    let below : digit_value (get_or text c.loop-i.i 0) < c.args.radix = rw (sym c.from.ensures) c.in-Some.ensures.value.0 in
    record {
      digits = digits_more c.args.radix text c.loop-i.i (omega arith) c.loop-i.invariant.digits below;
      value = rw (digits_value_more c.args.radix text c.loop-i.i (omega arith), sym is)
          (elim c.if-value-limit.branch [
            | then-value-limit w ↦ rw w.value-is (let h = capped_push c.args.limit c.loop-i.value (digits_value c.args.radix (take c.loop-i.i text)) c.args.radix c.in-Some.digit (omega arith) c.loop-i.invariant.value in rw (w.from-then-value-limit.ensures, w.from-then-value-limit-2.ensures) h)
            | else-value-limit w ↦ rw w.value-is (capped_stay c.args.limit c.loop-i.value (digits_value c.args.radix (take c.loop-i.i text)) c.args.radix c.in-Some.digit (omega arith) (omega arith) c.loop-i.invariant.value)
          ]);
    }

pub returns-clause-len : goal.returns-clause-len
returns-clause-len c = digits_whole c.args.radix c.args.text.now (let same : c.loop-i.i ≡ length c.args.text.now = omega arith in let h = c.loop-i.invariant.digits in rw same at h)
