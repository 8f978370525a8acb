-- The shares so far are those of nothing.
use Rattle.sd_analysis.proofs.Cited.{get_or, length, nothing_decided, ℕ, ◌<◌, ◌≡◌}
use Rattle.sd_analysis.proofs.compare_table.RightsBySid.begin.Given as goal

abbrev pub invariant-loop-place : goal.invariant-loop-place
invariant-loop-place l = record {
  room : length l.self.own.items ≡ length l.fn.self.own.items;
  begun : (k : ℕ) → k < l.place → get_or l.self.own.items k nothing_decided ≡ nothing_decided;
}
