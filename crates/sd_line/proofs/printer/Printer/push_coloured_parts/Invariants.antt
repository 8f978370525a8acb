-- What is left of the parts has its text after what was written.
use Rattle.std.proofs.Common.{◌≡◌, ◌++◌, drop}
use Rattle.std.specs.List.{flat_map}
use Rattle.sd_line.specs.Printed.{coloured_part}
use Rattle.sd_line.proofs.printer.Printer.push_coloured_parts.Given as goal

abbrev pub invariant-loop-part : goal.invariant-loop-part
invariant-loop-part l =
    l.out.items ++ flat_map (coloured_part l.self.spelling l.kind) (drop l.part-index l.parts)
    ≡ l.initial.out.items ++ flat_map (coloured_part l.self.spelling l.kind) l.parts
