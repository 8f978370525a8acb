-- The numbers so far stand at their places, with zeros behind them.
use Rattle.sd_sid.proofs.Cited.{All, get_or, length, u32_at, ℕ, ◌*◌, ◌+◌, ◌<◌, ◌^◌, ◌≡◌, ◌≤◌}
use Rattle.sd_sid.proofs.bytes.each_sub_of.Given as goal

abbrev pub invariant-loop-k : goal.invariant-loop-k
invariant-loop-k l =
    (length l.subs ≡ 15)
    × All (λ sub. sub < 2 ^ 32) l.subs
    × ((j : ℕ) → j < l.k → get_or l.subs j 0 ≡ u32_at l.bytes (8 + 4 * j))
    × ((j : ℕ) → l.k ≤ j → j < 15 → get_or l.subs j 0 ≡ 0)
