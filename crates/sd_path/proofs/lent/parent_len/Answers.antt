use Rattle.std.proofs.Common.{arith}
use Rattle.sd_path.proofs.PathBytes.{parent-begins, parent-stays, parent-ends}
use Rattle.sd_path.proofs.lent.parent_len.Goals as goal

pub loop-end-init : goal.loop-end-init
loop-end-init c =
    let e = parent-begins c.args.bytes.now _ c.requires in
    record { behind = omega arith; within = omega arith }

pub loop-end-preserved : goal.loop-end-preserved
loop-end-preserved c =
    let i = c.loop-end.invariant in
    record {
      behind = parent-stays c.args.bytes.now _ c.loop-end.end c.requires i.behind c.loop-end-test.true i.within c.if-bytes-end-ne0.true;
      within = omega (arith, i.within);
    }

pub returns-after-loop-end-clause-front : goal.returns-after-loop-end-clause-front
returns-after-loop-end-clause-front c =
    let i = c.loop-end.invariant in
    parent-ends c.args.bytes.now _ c.loop-end.end c.requires i.behind i.within (λ some. absurd (omega arith))

pub returns-else-bytes-end-ne0-clause-front : goal.returns-else-bytes-end-ne0-clause-front
returns-else-bytes-end-ne0-clause-front c =
    let i = c.loop-end.invariant in
    parent-ends c.args.bytes.now _ c.loop-end.end c.requires i.behind i.within (λ some. c.if-bytes-end-ne0.false)
