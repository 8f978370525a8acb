-- What the program prints for a command line, and whether it did what was asked for.
use Rattle.std.specs.Prelude.{◌≡◌, ℕ, Bool, false, ◌||◌, List, [], Option, MatchResult, Result}
use Rattle.sd_lines.specs.Output.{IsOutput}
use Rattle.sd_script.specs.declared.script_options.ScriptOptions.{ScriptOptions}
use Rattle.sd_script.specs.declared.script_counts.ScriptCounts.{ScriptCounts}
use Rattle.sd_script_audit.specs.Audit.{PrintsAuditAndCounts}
use Rattle.sd_script.specs.Printed.{PrintsAndCountsServed}
use Rattle.sd_usage.specs.declared.row.OptionName.TheVariants.{Strict, StrictStatus}
use Rattle.sd_arguments.specs.CommandLine.{CommandLineValue, Ask, Each, Help, Runs, Script, Version}
use Rattle.sd_arguments.specs.Options.{OptionsValue, GivesScriptOptions, has, style_of}
use Rattle.sd_arguments.specs.Version.{version_line}
use Rattle.sd_arguments.specs.declared.command_line.ScriptRun.{ScriptRun}
use Rattle.sd_arguments.specs.declared.command_line.ScriptRun.TheVariants.{AtOnce, LineByLine, Audit}
use Rattle.sd_arguments.specs.declared.options.BadValue.{BadValue}
use Rattle.sd_questions.specs.TextAnswer.{AnswersEach, AnswersOnce, IsBadValue}
use Rattle.sd_questions.specs.TextAnswer.{PrintedAnswer, printed_as}
use Rattle.sd_commands.specs.Answer.{AnswerValue}
use Rattle.sd_commands.specs.declared.command_answer.Outcome.TheVariants.{Done}
use Rattle.sd_command_line.specs.Scripts.{IsToldOfScript, script_outcome}

-- such an answer, as it is printed
abbrev pub IsPrinted : OptionsValue → (AnswerValue → Type 0) → PrintedAnswer → Type 0
IsPrinted options Answers answer =
    (plain : AnswerValue) × Answers plain × (answer ≡ printed_as (style_of options) plain)

-- ---- scripts

-- what is printed and counted of a text that is a script
abbrev pub PrintsRun : ScriptRun → ScriptOptions → List ℕ → List ℕ → ScriptCounts → Type 0
PrintsRun AtOnce run_options = PrintsAndCountsServed false run_options
PrintsRun (LineByLine has_ids) run_options = PrintsAndCountsServed has_ids run_options
PrintsRun (Audit workers) run_options = PrintsAuditAndCounts run_options workers

-- a fault of a line is told, and isn't success
abbrev pub is_strict : OptionsValue → Bool
is_strict options = has options Strict || has options StrictStatus

-- the output of the script on the input; or a value of an option isn't read
abbrev pub AnswersScript : ScriptRun → Option (List ℕ) → OptionsValue → PrintedAnswer → Type 0
AnswersScript run input options answer =
    (said : Result ScriptOptions BadValue) × GivesScriptOptions options said × MatchResult said
    (λ run_options. (counts : ScriptCounts)
    × IsOutput (λ text printed. PrintsRun run run_options text printed counts) input answer.printed
    × IsToldOfScript (is_strict options) counts answer.told
    × (answer.outcome ≡ script_outcome (is_strict options) counts))
    (λ bad. IsPrinted options (IsBadValue bad) answer)

-- what is printed for a command line, with this input where it is known, and what came of it; the help's text is
-- `clap`'s
abbrev pub Answers : Option (List ℕ) → CommandLineValue → PrintedAnswer → Type 0
Answers input (Help command) answer = (answer.told ≡ []) × (answer.outcome ≡ Done)
Answers input Version answer = (answer.printed ≡ version_line) × (answer.told ≡ []) × (answer.outcome ≡ Done)
Answers input (Runs options (Ask text request)) answer =
    IsPrinted options (AnswersOnce input options text request) answer
Answers input (Runs options (Each given request)) answer = AnswersEach options given request input answer
Answers input (Runs options (Script run)) answer = AnswersScript run input options answer
