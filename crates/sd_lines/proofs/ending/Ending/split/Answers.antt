use Rattle.sd_lines.proofs.Cited.{arith, length-drop, take_rest}
use Rattle.sd_lines.proofs.Cutting.{end_at, none_before}
use Rattle.sd_lines.proofs.ending.Ending.split.Goals as goal

pub returns-clause-none : goal.returns-clause-none
returns-clause-none c = rw c.place-end.ensures.place (none_before c.args.self c.args.bytes.now)

pub returns-clause-end : goal.returns-clause-end
returns-clause-end c some =
    rw (take_rest c.args.bytes.now c.place-end.result, c.place-end.ensures.place)
    (end_at c.args.self c.args.bytes.now
    (omega (arith, c.place-end.ensures.place, length-drop c.place-end.result c.args.bytes.now, rw (take_rest c.args.bytes.now c.place-end.result) at some)))
