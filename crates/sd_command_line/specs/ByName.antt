-- What the program does with words that name a file of accounts.
use Rattle.std.specs.Prelude.{◌≡◌, ◌⊎◌, ℕ, List, [], ◌∷◌, Option, Some, None}
use Rattle.std.specs.Borrow.{Bor}
use Rattle.std.specs.Io.KnownBytes.{Appends}
use Rattle.std.specs.Option.{option_and_then}
use Rattle.sd_line.specs.Printed.{printed}
use Rattle.sd_line.specs.declared.print.Style.{Style}
use Rattle.sd_answer.specs.VerdictLines.{fault_line}
use Rattle.sd_accounts.specs.Row.{AccountRow}
use Rattle.sd_named.specs.File.{AreAccounts}
use Rattle.sd_usage.specs.declared.row.OptionName.TheVariants.{StrictStatus}
use Rattle.sd_commands.specs.Answer.{AnswerValue}
use Rattle.sd_arguments.specs.CommandLine.{Ask, CommandLineValue, Each, Runs, reading}
use Rattle.sd_arguments.specs.Options.{has}
use Rattle.sd_questions.specs.Output.{AppendsWhole}
use Rattle.sd_named_questions.specs.Answer.{AnswersNamed, AppendsEachNamed}
use Rattle.sd_command_line.specs.Answer.{IsPrinted}
use Rattle.sd_command_line.specs.Names.{request_in, without_accounts}
use Rattle.sd_command_line.specs.Output.{AppendsAnswer}

-- known bytes grow by the answer by people to a question about a text, or by the answers to each line, where the words
-- name the accounts of these rows
abbrev pub AppendsByName : List AccountRow → CommandLineValue → (input old new : Option (List ℕ)) → List ℕ → ℕ → Type 0
AppendsByName rows (Runs options (Ask text request)) input old new told status =
    AppendsWhole (has options StrictStatus) (IsPrinted options (AnswersNamed rows options text request input)) old new
    told status
AppendsByName rows (Runs options (Each given request)) input old new told status =
    AppendsEachNamed rows options given request input old new told status
AppendsByName rows line input old new told status = ⊥

-- the answer is the line of a fault
abbrev pub IsFaultAlone : AnswerValue → Type 0
IsFaultAlone answer = (what : List ℕ) × (answer.lines ≡ fault_line what ∷ [])

-- known bytes grow by the line of a fault; the status isn't that of an answer that was asked for
pub record AppendsFault (old new : Option (List ℕ)) (status : ℕ) : Type 0 where
  pub what : List ℕ
  pub style : Style
  pub appended : Appends old new (printed style None (fault_line what ∷ []))
  pub ended : (status ≡ 1) ⊎ (status ≡ 4)

-- what stands after words that name the accounts of this text, and what standard error is told: the answer to the words
-- without the file's name; or a fault of the text or of a name in the words. Words that ask nothing of a text stand as
-- they are
pub data EndsByName (text : List ℕ) (words : List (Bor (List ℕ))) (input old new : Option (List ℕ)) (told : List ℕ)
    (status : ℕ) : Type 0 where
  asked : (rows : List AccountRow) (line : CommandLineValue) → AreAccounts text rows
      → reading (without_accounts words) ≡ Some line → AppendsByName rows line input old new told status
      → EndsByName text words input old new told status
  faulty : AppendsFault old new status → EndsByName text words input old new told status
  unasked : option_and_then request_in (reading (without_accounts words)) ≡ None
      → AppendsAnswer (without_accounts words) input old new told status
      → EndsByName text words input old new told status
