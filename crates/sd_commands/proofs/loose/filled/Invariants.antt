-- The bytes so far without those that don't count.
use Rattle.sd_commands.proofs.Cited.{filter, is_blank_byte, not, take, ◌≡◌}
use Rattle.sd_commands.proofs.loose.filled.Given as goal

abbrev pub invariant-loop-byte : goal.invariant-loop-byte
invariant-loop-byte l = l.digits.items ≡ filter (λ b. not (is_blank_byte b)) (take l.byte-index l.text)
