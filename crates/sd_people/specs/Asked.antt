-- What is asked about people, and of which of them what.
use Rattle.std.specs.Prelude.{ℕ, List, ◌∷◌, Option, Some, None, option_map}
use Rattle.std.specs.Borrow.{Bor}
use Rattle.sd_line.specs.declared.print.Style.{Style}
use Rattle.sd_answer.specs.Word.{texts}
use Rattle.sd_accounts.specs.Accounts.{rows_of}
use Rattle.sd_accounts.specs.Row.{AccountRow}
use Rattle.sd_usage.specs.declared.row.DescriptorCommand.TheVariants.{Compare, Who}
use Rattle.sd_usage.specs.declared.row.TextCommand.{TextCommand}
use Rattle.sd_usage.specs.declared.row.TextCommand.TheVariants.{Descriptor}
use Rattle.sd_commands.specs.declared.settings.Settings.{Settings}
use Rattle.sd_people.specs.declared.asking.OfEach.{OfEach}
use Rattle.sd_people.specs.declared.asking.OfEach.TheVariants as each
use Rattle.sd_people.specs.declared.asking.PeopleQuestion.{PeopleQuestion}

-- a question, with the text of its descriptor, unless that is read from the input, and the arguments after it
pub record PeopleAsked : Type 0 where
  pub rows : List AccountRow
  pub settings : Settings
  pub question : TextCommand
  pub text : Option (List ℕ)
  pub arguments : List (List ℕ)
  pub style : Style

-- a borrowed text, if there is one, as what it is
abbrev pub text_of : Option (Bor (List ℕ)) → Option (List ℕ)
text_of text = option_map (λ (one : Bor (List ℕ)). one.now) text

abbrev pub asked_of : PeopleQuestion → PeopleAsked
asked_of question = record {
  rows = rows_of question.accounts.now;
  settings = question.settings.now;
  question = question.question;
  text = text_of question.text;
  arguments = texts question.arguments.now;
  style = question.style;
}

-- what is asked of each user: what a descriptor grants it of a mask; or what it gains and loses by another
pub data EachAsked : Type 0 where
  Granted : (text mask : List ℕ) → EachAsked
  Changed : (old new : List ℕ) → EachAsked

abbrev pub each_of : OfEach → EachAsked
each_of (each.Granted text mask) = Granted text.now mask.now
each_of (each.Changed old new) = Changed old.now new.now

-- and with which words beside its own groups
abbrev pub words_asked : OfEach × Bor (List (Bor (List ℕ))) → EachAsked × List (List ℕ)
words_asked asked = (each_of asked.0, texts asked.1.now)

-- of a text with arguments `who` and `compare` ask each user, and the other questions nobody
abbrev pub asked_by : Option (List ℕ) → List (List ℕ) → TextCommand → Option (EachAsked × List (List ℕ))
asked_by (Some text) (mask ∷ words) (Descriptor Who) = Some (Granted text mask, words)
asked_by (Some old) (new ∷ words) (Descriptor Compare) = Some (Changed old new, words)
asked_by text arguments question = None

abbrev pub asked_of_each : PeopleAsked → Option (EachAsked × List (List ℕ))
asked_of_each asked = asked_by asked.text asked.arguments asked.question
