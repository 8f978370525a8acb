-- Each call has a field less.
use Rattle.std.proofs.Common.{length}
use Rattle.sd_line.specs.Fields.{fields_in}
use Rattle.sd_line.proofs.fields.Fields.+value.Given as goal

abbrev pub decreases-value : goal.decreases-value
decreases-value l = length (fields_in l.self)
