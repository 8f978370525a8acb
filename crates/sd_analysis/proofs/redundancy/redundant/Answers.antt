use Rattle.std.proofs.Common.{length, ◌-◌, arith}
use Rattle.sd_analysis.proofs.Judged.{judged_all, judged_next, judged_none, left_room, marks_room, none_marked_at_first}
use Rattle.sd_analysis.proofs.redundancy.redundant.Goals as goal

pub loop-judged-init : goal.loop-judged-init
loop-judged-init c = judged_none c.args.owner c.args.entries.now c.args.mapping.now c.args.base.now c.in_ok-marks.marks.items (length c.args.entries.now - 0) c.in_ok-left.left.items
    c.in_ok-left.ensures.items (omega arith) (none_marked_at_first _ _ c.in_ok-marks.ensures).0 (none_marked_at_first _ _ c.in_ok-marks.ensures).1

pub judge-requires-clause-left : goal.judge-requires-clause-left
judge-requires-clause-left c = left_room c.args.owner c.args.entries.now c.args.mapping.now c.args.base.now c.loop-judged.marks.items c.loop-judged.left.items
    c.loop-judged.invariant (omega (arith, c.loop-judged-test.true)) (omega (arith, c.loop-judged-test.true))

pub judge-requires-clause-marks : goal.judge-requires-clause-marks
judge-requires-clause-marks c = marks_room c.args.owner c.args.entries.now c.args.mapping.now c.args.base.now c.loop-judged.marks.items c.loop-judged.left.items
    c.loop-judged.invariant (omega (arith, c.loop-judged-test.true))

pub loop-judged-preserved : goal.loop-judged-preserved
loop-judged-preserved c = judged_next c.args.owner c.args.entries.now c.args.mapping.now c.args.base.now c.loop-judged.marks.items c.judge.new.marks.items
    c.loop-judged.left.items c.judge.new.left.items c.loop-judged.invariant c.in_ok-judge.ensures
    (omega (arith, c.loop-judged-test.true)) (omega (arith, c.loop-judged-test.true)) (omega (arith, c.loop-judged-test.true))

pub returns : goal.returns
returns c = judged_all c.args.owner c.args.entries.now c.args.mapping.now c.args.base.now c.loop-judged.marks.items
    (length c.args.entries.now - c.loop-judged.judged) c.loop-judged.left.items (omega (arith, c.loop-judged-test.false)) c.loop-judged.invariant
