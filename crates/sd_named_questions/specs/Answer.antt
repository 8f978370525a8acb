-- The answers to questions whose words name accounts.
use Rattle.std.specs.Prelude.{◌≡◌, ◌⊎◌, ℕ, Bool, false, List, Option, None, Ok, Err}
use Rattle.sd_answer.specs.Word.{texts}
use Rattle.sd_accounts.specs.Row.{AccountRow}
use Rattle.sd_usage.specs.declared.row.OptionName.TheVariants.{StrictStatus}
use Rattle.sd_commands.specs.Answer.{AnswerValue}
use Rattle.sd_commands.specs.declared.settings.Settings.{Settings}
use Rattle.sd_arguments.specs.CommandLine.{RequestValue}
use Rattle.sd_arguments.specs.Options.{GivesSettings, OptionsValue, has, style_of}
use Rattle.sd_arguments.specs.declared.flags.GivenFlags.{GivenFlags}
use Rattle.sd_arguments.specs.declared.options.BadValue.{BadValue}
use Rattle.sd_people.specs.Asked.{PeopleAsked}
use Rattle.sd_people.specs.People.{AnswersByPeople}
use Rattle.sd_questions.specs.Output.{AppendsWhole}
use Rattle.sd_questions.specs.TextAnswer.{AnswersEach, AnswersOnce}
use Rattle.sd_named_questions.specs.Request.{IsNamedRequest}

-- an option's value isn't read, so nothing is answered but a fault that names it
abbrev pub IsBad : OptionsValue → Type 0
IsBad options = (bad : BadValue) × GivesSettings options (Err bad)

-- what is asked about people, of a question whose words are SIDs
abbrev pub people_asked : List AccountRow → Settings → OptionsValue → Option (List ℕ) → RequestValue → PeopleAsked
people_asked rows settings options text request = record {
  rows = rows;
  settings = settings;
  question = request.question;
  text = text;
  arguments = texts request.arguments;
  style = style_of options;
}

-- the answer to the question with SIDs in the place of names, by people
pub record AnswersByNames (rows : List AccountRow) (options : OptionsValue) (text : Option (List ℕ))
    (request : RequestValue) (input : Option (List ℕ)) (answer : AnswerValue) : Type 0 where
  pub settings : Settings
  pub gives : GivesSettings options (Ok settings)
  pub own_text : Option (List ℕ)
  pub own : RequestValue
  pub is_named : IsNamedRequest rows settings text false request own_text own
  pub plain : AnswerValue
  pub answers : AnswersOnce input options own_text own plain
  pub by_people : AnswersByPeople (people_asked rows settings options own_text own) plain answer

-- that, or the fault of an option
abbrev pub AnswersNamed : List AccountRow → OptionsValue → Option (List ℕ) → RequestValue → Option (List ℕ)
    → AnswerValue → Type 0
AnswersNamed rows options text request input answer = AnswersByNames rows options text request input answer
    ⊎ (IsBad options × AnswersOnce input options text request answer)

-- the question that each line is asked: with SIDs in the place of names, unless an option's value isn't read
abbrev pub IsOwn : List AccountRow → OptionsValue → (pairs : Bool) → RequestValue → RequestValue → Type 0
IsOwn rows options pairs request own =
    ((settings : Settings) × GivesSettings options (Ok settings)
    × IsNamedRequest rows settings None pairs request None own)
    ⊎ (IsBad options × (own ≡ request))

-- known bytes grow by the answers to each line
abbrev pub AppendsEachNamed : List AccountRow → OptionsValue → GivenFlags → RequestValue → Option (List ℕ)
    → (old new : Option (List ℕ)) → List ℕ → ℕ → Type 0
AppendsEachNamed rows options given request input old new told status = (own : RequestValue)
    × IsOwn rows options given.pairs request own
    × AppendsWhole (has options StrictStatus) (AnswersEach options given own input) old new told status
