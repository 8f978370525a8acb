-- What is left of the texts stands after what was written.
use Rattle.std.proofs.Common.{◌≡◌, ◌++◌, drop, map, string_bytes}
use Rattle.sd_line.specs.Printed.{spaced}
use Rattle.sd_line.proofs.printer.Printer.spaced.Given as goal

abbrev pub invariant-loop-one : goal.invariant-loop-one
invariant-loop-one l =
    string_bytes l.text ++ spaced (map string_bytes (drop l.one-index l.texts)) ≡ spaced (map string_bytes l.texts)
