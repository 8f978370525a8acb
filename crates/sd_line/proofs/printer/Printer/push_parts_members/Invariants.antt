-- What is left of the parts has its members after what was written.
use Rattle.std.proofs.Common.{◌≡◌, ◌++◌, drop}
use Rattle.std.specs.List.{flat_map}
use Rattle.sd_line.specs.Printed.{part_members}
use Rattle.sd_line.proofs.printer.Printer.push_parts_members.Given as goal

abbrev pub invariant-loop-part : goal.invariant-loop-part
invariant-loop-part l =
    l.out.items ++ flat_map (part_members l.self.spelling) (drop l.part-index l.parts)
    ≡ l.initial.out.items ++ flat_map (part_members l.self.spelling) l.parts
