-- Each call has a field less.
use Rattle.std.proofs.Common.{length}
use Rattle.sd_line.specs.Fields.{fields_in}
use Rattle.sd_line.proofs.printer.Printer.+push_fields.Given as goal

abbrev pub decreases-push_fields : goal.decreases-push_fields
decreases-push_fields l = length (fields_in l.fields)
