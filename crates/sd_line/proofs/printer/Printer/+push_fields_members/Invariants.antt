-- Each call has a field less.
use Rattle.std.proofs.Common.{length}
use Rattle.sd_line.specs.Fields.{fields_in}
use Rattle.sd_line.proofs.printer.Printer.+push_fields_members.Given as goal

abbrev pub decreases-push_fields_members : goal.decreases-push_fields_members
decreases-push_fields_members l = length (fields_in l.fields)
