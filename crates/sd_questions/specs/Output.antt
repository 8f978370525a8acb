-- What an answer leaves in a writer whose bytes are known.
use Rattle.std.specs.Prelude.{◌≡◌, ℕ, Bool, List, Option, None, Result}
use Rattle.std.specs.Io.KnownBytes.{Appends}
use Rattle.sd_lines.specs.Answers.{Prints}
use Rattle.sd_lines.specs.Output.{LeavesAnswers}
use Rattle.sd_lines.specs.declared.error.RunError.{RunError}
use Rattle.sd_commands.specs.Answer.{outcome_status}
use Rattle.sd_commands.specs.declared.command_answer.Outcome.{Outcome}
use Rattle.sd_commands.specs.declared.settings.Settings.{Settings}
use Rattle.sd_arguments.specs.CommandLine.{RequestValue}
use Rattle.sd_arguments.specs.Options.{GivesSettings, OptionsValue, style_of}
use Rattle.sd_arguments.specs.declared.flags.GivenFlags.{GivenFlags}
use Rattle.sd_arguments.specs.declared.options.BadValue.{BadValue}
use Rattle.sd_questions.specs.TextAnswer.{AnswersNext, PrintedAnswer, form_of}

-- known bytes grow by a whole answer; this is told beside it, and it ends with this status: that of a fault is one of
-- its own where `is_strict`
pub record AppendsWhole (is_strict : Bool) (Answers : PrintedAnswer → Type 0) (old new : Option (List ℕ))
    (told : List ℕ) (status : ℕ) : Type 0 where
  pub text : List ℕ
  pub outcome : Outcome
  pub answers : Answers (record { printed = text; told = told; outcome = outcome })
  pub ended : status ≡ outcome_status is_strict outcome
  pub appended : Appends old new text

-- what was answered of the lines until an error
abbrev pub LeavesEach : OptionsValue → GivenFlags → RequestValue → Option (List ℕ) → Option (List ℕ) → Option (List ℕ)
    → Option (List ℕ) → RunError → Type 0
LeavesEach options given request input left old new error =
    (said : Result Settings BadValue) × GivesSettings options said × LeavesAnswers (form_of given.zero)
    (Prints (form_of given.zero) (AnswersNext given (style_of options) said request) None) input left old new error
