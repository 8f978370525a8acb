-- What is left of the lines is spelled after what came so far.
use Rattle.sd_script.proofs.Cited.{drop, flat_map, spelled_byte, ◌++◌, ◌≡◌}
use Rattle.sd_script.specs.Expect.{lines_of}
use Rattle.sd_script.proofs.expect.spelled.Given as goal

abbrev pub invariant-loop-byte : goal.invariant-loop-byte
invariant-loop-byte l = flat_map spelled_byte (lines_of l.text) ≡ l.one.items ++ flat_map spelled_byte (drop l.byte-index (lines_of l.text))
