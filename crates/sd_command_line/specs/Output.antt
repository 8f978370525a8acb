-- What the program leaves in a writer whose bytes are known.
use Rattle.std.specs.Prelude.{◌≡◌, ⊤, ◌⊎◌, ℕ, Bool, false, ◌||◌, List, Option, Some, Err, codes}
use Rattle.std.specs.Io.KnownBytes.{Keeps}
use Rattle.std.specs.Borrow.{Bor}
use Rattle.sd_lines.specs.Streams.{AppendsBeginning, ReadsPart, is_read_error, is_write_error}
use Rattle.sd_lines.specs.declared.error.RunError.{RunError}
use Rattle.sd_lines.specs.declared.error.RunError.TheVariants.{Read, TooLong, Write, Memory, Thread}
use Rattle.sd_line.specs.Printed.{line}
use Rattle.sd_script.specs.Printed.{PrintsServed}
use Rattle.sd_script.specs.declared.script_options.ScriptOptions.{ScriptOptions}
use Rattle.sd_script.specs.declared.ids.TheConstants.{LINES}
use Rattle.sd_lines.specs.Output.{LeavesAnswers}
use Rattle.sd_questions.specs.TextAnswer.{PrintedAnswer}
use Rattle.sd_arguments.specs.CommandLine.{CommandLineValue, Each, Runs, Script, reading, IsAudit, IsUnread}
use Rattle.sd_arguments.specs.Options.{AreScriptOptions, has}
use Rattle.sd_arguments.specs.declared.command_line.ScriptRun.TheVariants.{LineByLine}
use Rattle.sd_usage.specs.declared.row.OptionName.TheVariants.{StrictStatus}
use Rattle.sd_questions.specs.Output.{AppendsWhole, LeavesEach}
use Rattle.sd_command_line.specs.Answer.{Answers}

-- ---- of a command line

-- the status of a fault is one of its own
abbrev pub tells_faults : CommandLineValue → Bool
tells_faults (Runs options invocation) = has options StrictStatus
tells_faults line = false

-- known bytes grow by the whole answer, with this input; this is told beside it, and it ends with this status
abbrev pub AppendsAnswerTo : CommandLineValue → Option (List ℕ) → Option (List ℕ) → Option (List ℕ) → List ℕ → ℕ
    → Type 0
AppendsAnswerTo line input = AppendsWhole (tells_faults line) (Answers input line)

-- known bytes grow by a beginning of the answer
pub record AppendsPartOfAnswerTo (line : CommandLineValue) (input old new : Option (List ℕ)) : Type 0 where
  pub answer : PrintedAnswer
  pub answers : Answers input line answer
  pub beginning : AppendsBeginning old new answer.printed

-- what was answered line by line until then, of a script that is run so or of `each`
abbrev pub LeavesLinesOf : CommandLineValue → Option (List ℕ) → Option (List ℕ) → Option (List ℕ) → Option (List ℕ)
    → RunError → Type 0
LeavesLinesOf (Runs options (Script (LineByLine has_ids))) input left old new error =
    (run_options : ScriptOptions) × AreScriptOptions options run_options
    × LeavesAnswers LINES (PrintsServed has_ids run_options) input left old new error
LeavesLinesOf (Runs options (Each given request)) input left old new error =
    LeavesEach options given request input left old new error
LeavesLinesOf line input left old new error = ⊥

-- no write failed
abbrev pub IsNoWriteError : RunError → Type 0
IsNoWriteError Write = ⊥
IsNoWriteError error = ⊤

-- after which errors nothing may stand: of lines that are answered as they end after want of memory alone, of an answer
-- that is given at once after any but a failed write
abbrev pub MayLeaveNothing : CommandLineValue → RunError → Type 0
MayLeaveNothing (Runs options (Script (LineByLine has_ids))) error = error ≡ Memory
MayLeaveNothing (Runs options (Each given request)) error = error ≡ Memory
MayLeaveNothing line error = IsNoWriteError error

-- what stands where the answer isn't there, or not the whole of it, after this error
abbrev pub LeavesAfter : CommandLineValue → Option (List ℕ) → Option (List ℕ) → Option (List ℕ) → Option (List ℕ)
    → RunError → Type 0
LeavesAfter line input left old new error =
    (MayLeaveNothing line error × Keeps old new)
    ⊎ (((error ≡ Write) × AppendsPartOfAnswerTo line input old new) ⊎ LeavesLinesOf line input left old new error)

-- ---- of words

-- the words are a command line of which this holds
abbrev pub OfReading : List (Bor (List ℕ)) → (CommandLineValue → Type 0) → Type 0
OfReading words Holds = (line : CommandLineValue) × (reading words ≡ Some line) × Holds line

abbrev pub AppendsAnswer : List (Bor (List ℕ)) → Option (List ℕ) → Option (List ℕ) → Option (List ℕ) → List ℕ → ℕ
    → Type 0
AppendsAnswer words input old new told status = OfReading words (λ line. AppendsAnswerTo line input old new told status)

-- what stands after this error: where the words are no command line, memory was wanting for the message
abbrev pub LeavesOf : List (Bor (List ℕ)) → Option (List ℕ) → Option (List ℕ) → Option (List ℕ) → Option (List ℕ)
    → RunError → Type 0
LeavesOf words input left old new error =
    (IsUnread words × (error ≡ Memory) × Keeps old new)
    ⊎ OfReading words (λ line. LeavesAfter line input left old new error)

-- what standard error gets of an error
abbrev pub error_line : RunError → List ℕ
error_line Read = line (codes "sdstore: read")
error_line TooLong = line (codes "sdstore: too long")
error_line Write = line (codes "sdstore: write")
error_line Memory = line (codes "sdstore: memory")
error_line Thread = line (codes "sdstore: thread")

-- an error blames a stream just where that stream failed, TooLong comes only where too much was read, and Thread of an
-- audit alone; of want of memory no stream tells
pub record IsDue (words : List (Bor (List ℕ))) (read_before read_after write_before write_after : Bool)
    (old new : Option (List ℕ)) (error : RunError) : Type 0 where
  pub read : read_after ≡ (read_before || is_read_error {T = Unit {0}} (Err error))
  pub write : write_after ≡ (write_before || is_write_error {T = Unit {0}} (Err error))
  pub too_long : error ≡ TooLong → ReadsPart old new TooLong
  pub thread : error ≡ Thread → OfReading words IsAudit
