use Rattle.std.proofs.Common.{◌≡◌, ℕ, ◌<◌, ◌==◌, ◌||◌, false, get_or}
use Rattle.sd_path.proofs.read.name_len.Given as goal

abbrev pub invariant-loop-i : goal.invariant-loop-i
invariant-loop-i l = (k : ℕ) → k < l.i → (get_or l.text k 0 == 0x2F || get_or l.text k 0 == 0) ≡ false
