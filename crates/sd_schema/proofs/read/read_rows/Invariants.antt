-- The rows so far, and those of what is left of the text.
use Rattle.std.proofs.Common.{length, ◌+◌, ◌≡◌, ◌≤◌}
use Rattle.sd_lines.specs.Lines.{lines_in}
use Rattle.sd_lines.specs.declared.ending.Ending.TheVariants.{Feed}
use Rattle.sd_schema.specs.Kept.{all_rows}
use Rattle.sd_schema.specs.Row.{rows_from, rows_in}
use Rattle.sd_schema.proofs.read.read_rows.Given as goal

abbrev pub invariant-lines : goal.invariant-lines
invariant-lines l = record {
  reads : rows_in l.text ≡ rows_from (l.number + 1) (all_rows l.rows.items) (lines_in Feed l.left);
  room : l.number + length l.left ≤ length l.text;
}

abbrev pub decreases-lines : goal.decreases-lines
decreases-lines l = length l.left
