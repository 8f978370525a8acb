use Rattle.std.proofs.Common.{arith}
use Rattle.sd_path.proofs.PathTexts.{prefix_len-is, slash_stops, zero_stops}
use Rattle.sd_path.proofs.read.name_len.Goals as goal
use Rattle.sd_path.proofs.read.name_len.Goals.{then-b-eq47-via-then-b-eq47, then-b-eq47-via-else-b-eq47+then-b-eq0}

pub returns-then-b-eq47 : goal.returns-then-b-eq47
returns-then-b-eq47 c = prefix_len-is c.args.text.now c.loop-i.i (omega arith) c.loop-i.invariant
    (λ below. elim c.then-b-eq47.branch [
      | then-b-eq47-via-then-b-eq47 w ↦ slash_stops _ w.if-b-eq47.true
      | then-b-eq47-via-else-b-eq47+then-b-eq0 w ↦ zero_stops _ w.if-b-eq0.true
    ])

pub returns : goal.returns
returns c =
    let at_end = c.loop-i-test.false in
    prefix_len-is c.args.text.now _ (omega arith) (λ k below. c.loop-i.invariant k (omega arith)) (λ below. absurd (omega arith))
