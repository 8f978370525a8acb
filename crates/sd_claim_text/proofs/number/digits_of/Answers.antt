use Rattle.std.proofs.Common.{ap}
use Rattle.sd_text.proofs.Cited.{arith, digit_value, digits_len, digits_more, digits_value, digits_value_more, get_or, length, refl, sym, take, ◌<◌, ◌∙◌, ◌≡◌}
use Rattle.sd_text.proofs.Runs.{digits_stop, digits_whole}
use Rattle.sd_claim_text.proofs.Digits.{one_more}
use Rattle.sd_claim_text.specs.Number.{in_64_bits}
use Rattle.sd_claim_text.proofs.number.digits_of.Goals as goal

pub returns-in_default-clause-len : goal.returns-in_default-clause-len
returns-in_default-clause-len c = digits_stop c.args.radix c.args.text.now c.loop-i.i (omega arith) c.loop-i.invariant.digits (let h = c.in_default.ensures.value in rw (sym c.from.ensures) (omega (arith, h)))

pub returns-in_default-clause-value : goal.returns-in_default-clause-value
returns-in_default-clause-value c =
    let len : c.loop-i.i ≡ digits_len c.args.radix c.args.text.now = digits_stop c.args.radix c.args.text.now c.loop-i.i (omega arith) c.loop-i.invariant.digits (let h = c.in_default.ensures.value in rw (sym c.from.ensures) (omega (arith, h))) in
    c.loop-i.invariant.value ∙ ap (λ n. in_64_bits (digits_value c.args.radix (take n c.args.text.now))) len

pub loop-i-preserved : goal.loop-i-preserved
loop-i-preserved c =
    let text = c.args.text.now in
    let is : c.in-Some.digit ≡ digit_value (get_or text c.loop-i.i 0) = rw (sym c.from.ensures) c.in-Some.ensures.value.1 in
    let below : digit_value (get_or text c.loop-i.i 0) < c.args.radix = rw (sym c.from.ensures) c.in-Some.ensures.value.0 in
    record {
      digits = digits_more c.args.radix text c.loop-i.i c.loop-i-test.true c.loop-i.invariant.digits below;
      value = rw (c.with_digit-value.ensures, c.loop-i.invariant.value, one_more (digits_value c.args.radix (take c.loop-i.i text)) c.args.radix c.in-Some.digit (omega arith), digits_value_more c.args.radix text c.loop-i.i c.loop-i-test.true, is) refl;
    }

pub returns-clause-len : goal.returns-clause-len
returns-clause-len c = digits_whole c.args.radix c.args.text.now (let same : c.loop-i.i ≡ length c.args.text.now = omega arith in let h = c.loop-i.invariant.digits in rw same at h)

pub returns-clause-value : goal.returns-clause-value
returns-clause-value c =
    let all : c.loop-i.i ≡ length c.args.text.now = omega arith in
    let len = digits_whole c.args.radix c.args.text.now (let h = c.loop-i.invariant.digits in rw all at h) in
    c.loop-i.invariant.value ∙ ap (λ n. in_64_bits (digits_value c.args.radix (take n c.args.text.now))) (all ∙ len)
