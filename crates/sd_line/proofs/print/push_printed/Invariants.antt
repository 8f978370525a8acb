-- What is left of the lines is printed after what was written.
use Rattle.std.proofs.Common.{◌≡◌, ◌++◌, drop}
use Rattle.sd_line.specs.Printed.{printed, tag_of}
use Rattle.sd_line.proofs.print.push_printed.Given as goal

abbrev pub invariant-loop-line : goal.invariant-loop-line
invariant-loop-line l =
    l.out.items ++ printed l.style (tag_of l.tag) (drop l.line-index l.lines)
    ≡ l.initial.out.items ++ printed l.style (tag_of l.tag) l.lines
