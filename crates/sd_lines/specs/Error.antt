-- The numbers and the names of the errors of a run.
use Rattle.std.specs.Prelude.{ℕ, List, codes}
use Rattle.sd_lines.specs.declared.error.RunError.{RunError}
use Rattle.sd_lines.specs.declared.error.RunError.TheVariants.{Read, TooLong, Write, Memory, Thread}

abbrev pub run_error_number : RunError → ℕ
run_error_number Read = 1
run_error_number TooLong = 2
run_error_number Write = 3
run_error_number Memory = 4
run_error_number Thread = 5

abbrev pub run_error_name : RunError → List ℕ
run_error_name Read = codes "Read"
run_error_name TooLong = codes "TooLong"
run_error_name Write = codes "Write"
run_error_name Memory = codes "Memory"
run_error_name Thread = codes "Thread"
