-- Each turn adds a digit, or ends at what is none.
use Rattle.sd_condition_parse.proofs.Cited.{arith, digit_value, digits_value, get_or, length, sym, take, ◌<◌, ◌≡◌}
use Rattle.std.proofs.lemmas.Int.Digits.{digits_more, digits_value_more}
use Rattle.sd_text.proofs.Runs.{digits_stop, digits_whole}
use Rattle.sd_condition_parse.proofs.integer.digits_of.Goals as goal

pub returns-in_default-clause-len : goal.returns-in_default-clause-len
returns-in_default-clause-len c = digits_stop c.args.radix c.args.text.now c.loop-i.i (omega arith) c.loop-i.invariant.digits (let h = c.in_default.ensures.value in rw (sym c.from.ensures) (omega (arith, h)))

pub loop-i-preserved : goal.loop-i-preserved
loop-i-preserved c =
    let text = c.args.text.now in
    let is : c.in-Some.digit ≡ digit_value (get_or text c.loop-i.i 0) = rw (sym c.from.ensures) c.in-Some.ensures.value.1 in
    let below : digit_value (get_or text c.loop-i.i 0) < c.args.radix = rw (sym c.from.ensures) c.in-Some.ensures.value.0 in
    record {
      digits = digits_more c.args.radix text c.loop-i.i (omega arith) c.loop-i.invariant.digits below;
      value = rw (digits_value_more c.args.radix text c.loop-i.i (omega arith), sym is)
          (c.next_value-value.ensures (digits_value c.args.radix (take c.loop-i.i text)) c.loop-i.invariant.value);
    }

pub returns-clause-len : goal.returns-clause-len
returns-clause-len c = digits_whole c.args.radix c.args.text.now (let same : c.loop-i.i ≡ length c.args.text.now = omega arith in let h = c.loop-i.invariant.digits in rw same at h)
