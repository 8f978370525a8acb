-- The first row that the text names is one of those that are left.
use Rattle.std.proofs.Common.{drop, ◌≡◌}
use Rattle.sd_schema.specs.Kept.{all_rows}
use Rattle.sd_schema.specs.Names.{first_named}
use Rattle.sd_schema.proofs.names.first_named.Given as goal

abbrev pub invariant-loop-row : goal.invariant-loop-row
invariant-loop-row l = first_named (all_rows l.rows) l.text ≡ first_named (all_rows (drop l.row-index l.rows)) l.text
