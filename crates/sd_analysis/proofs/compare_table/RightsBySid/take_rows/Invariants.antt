-- Each place has what the rows so far come to.
use Rattle.sd_analysis.proofs.Cited.{fold, length, point_after, point_at, take, ℕ, ◌<◌, ◌≡◌}
use Rattle.sd_analysis.proofs.compare_table.RightsBySid.take_rows.Given as goal

abbrev pub invariant-loop-row : goal.invariant-loop-row
invariant-loop-row l = record {
  room : length l.self.own.items ≡ length l.fn.self.own.items;
  points : (place : ℕ) → place < length l.fn.self.own.items
      → point_at l.self place ≡ fold (point_after l.walk_pass place) (point_at l.fn.self place) (take l.row-index l.rows);
}
