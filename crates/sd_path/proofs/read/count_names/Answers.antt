use Rattle.sd_path.proofs.Cited.{ap, arith, between_slashes, drop, err_from_is_err_and, fault_of, length, sym, ◌+◌, ◌-◌, ◌∙◌, ◌≡◌}
use Rattle.sd_path.proofs.PathTexts.{between-first, between-last, fault-here, fault-last, fault-more, fault-too_many, slash_below}
use Rattle.sd_path.proofs.read.count_names.Goals as goal

pub returns-in_err-len : goal.returns-in_err-len
returns-in_err-len c =
    let p = err_from_is_err_and c.from_residual.result c.from_residual.ensures.1 in
    let i = c.loop-before.invariant in
    rw (p.1, p.2) (i.judged ∙ fault-here (128 - c.loop-before.before) c.loop-before.rest.now _ (omega arith) c.in_err-len.ensures)

pub returns-then-len-rest : goal.returns-then-len-rest
returns-then-len-rest c =
    let i = c.loop-before.invariant in
    let at = c.in_ok-len.ensures in
    let end = sym c.if-len-rest.true ∙ at.0 in (
      i.judged ∙ fault-last (128 - c.loop-before.before) c.loop-before.rest.now (omega arith) end at.1,
      let e = ap length (between-last c.loop-before.rest.now end) in omega (arith, i.counted),
    )

pub loop-before-preserved : goal.loop-before-preserved
loop-before-preserved c =
    let i = c.loop-before.invariant in
    let at = c.in_ok-len.ensures in
    let rest = c.loop-before.rest.now in
    let below = slash_below rest c.in_ok-len.len at.0 c.if-len-rest.false in
    let left : 128 - c.loop-before.before - 1 ≡ 128 - (c.loop-before.before + 1) = omega arith in
    let size = ap length (between-first rest c.in_ok-len.len at.0 below) in
    rw c.split_at.ensures.back record {
      judged =
          i.judged ∙ fault-more (128 - c.loop-before.before) c.in_ok-len.len rest (omega arith) at.0 below at.1
          ∙ ap (λ n. fault_of n (between_slashes (drop (c.in_ok-len.len + 1) rest))) left;
      counted = omega (arith, i.counted, size);
    }

pub returns : goal.returns
returns c =
    let i = c.loop-before.invariant in
    let n : 128 - c.loop-before.before ≡ 0 = omega arith in
    i.judged ∙ ap (λ left. fault_of left (between_slashes c.loop-before.rest.now)) n ∙ fault-too_many c.loop-before.rest.now
