-- The texts of the SIDs so far.
use Rattle.std.proofs.Common.{◌≡◌, map, string_bytes, take}
use Rattle.sd_line.specs.Printed.{marked_text}
use Rattle.sd_line.proofs.printer.Printer.sid_texts.Given as goal

abbrev pub invariant-loop-one : goal.invariant-loop-one
invariant-loop-one l = map string_bytes l.texts.items ≡ map marked_text (take l.one-index l.sids)
