-- The words so far are those of the bits so far.
use Rattle.sd_show.proofs.Cited.{Bor, List, map, rows, take, words_set, ℕ, ◌≡◌}
use Rattle.sd_show.proofs.control.words_set.Given as goal

abbrev pub invariant-loop-bit : goal.invariant-loop-bit
invariant-loop-bit l = map (λ (word : Bor (List ℕ)). word.now) l.words.items ≡ words_set (rows (take l.bit-index l.named)) l.bits
