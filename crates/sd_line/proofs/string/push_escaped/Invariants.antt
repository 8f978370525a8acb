-- What is left of the text has its bytes after what was written.
use Rattle.std.proofs.Common.{◌≡◌, ◌++◌, drop}
use Rattle.std.specs.List.{flat_map}
use Rattle.sd_line.specs.Json.{escaped}
use Rattle.sd_line.proofs.string.push_escaped.Given as goal

abbrev pub invariant-loop-byte : goal.invariant-loop-byte
invariant-loop-byte l =
    l.out.items ++ flat_map (escaped l.utf8) (drop l.byte-index l.text)
    ≡ l.initial.out.items ++ flat_map (escaped l.utf8) l.text
