-- The names so far are those of the rows so far.
use Rattle.std.proofs.Common.{◌≡◌, map, take}
use Rattle.std.specs.Prelude.{filter}
use Rattle.sd_usage.specs.Texts.{is_among}
use Rattle.sd_usage.proofs.names.command_names.Given as goal

abbrev pub invariant-loop-row : goal.invariant-loop-row
invariant-loop-row l =
    map (λ name. name.now) l.names.items ≡ map (λ row. row.0.now) (filter (λ row. is_among l.commands row.0.now row.1) (take l.row-index l.rows))
