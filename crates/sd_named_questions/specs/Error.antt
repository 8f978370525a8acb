-- Why a question whose words name accounts isn't answered.
use Rattle.sd_lines.specs.declared.error.RunError.TheVariants as run
use Rattle.sd_named.specs.declared.arguments.NamedError.{NamedError}
use Rattle.sd_named.specs.declared.arguments.NamedError.TheVariants.{Memory}
use Rattle.sd_named_questions.specs.declared.answer.NamedRunError.{NamedRunError}
use Rattle.sd_named_questions.specs.declared.answer.NamedRunError.TheVariants.{Named, Run}

-- memory that was refused is no fault of a name
abbrev pub error_of : NamedError → NamedRunError
error_of Memory = Run run.Memory
error_of error = Named error
