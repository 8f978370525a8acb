-- The bytes so far are those that were there, and the units so far.
use Rattle.sd_data.proofs.Cited.{take, text_bytes, ◌++◌, ◌≡◌}
use Rattle.sd_data.proofs.text.push_text.Given as goal

abbrev pub invariant-loop-unit : goal.invariant-loop-unit
invariant-loop-unit l = l.bytes.items ≡ l.fn.bytes.items ++ text_bytes (take l.unit-index l.unit-items)
