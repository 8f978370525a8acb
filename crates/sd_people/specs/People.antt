-- An answer by people: beside what is answered of all tokens what each user is granted that may log on, or gains and
-- loses, with names in the place of SIDs.
use Rattle.std.specs.Prelude.{◌≡◌, ◌⊎◌, ℕ, Bool, true, false, not, ◌&&◌, ◌||◌, List, [], ◌∷◌, ◌++◌, drop, map}
use Rattle.std.specs.Prelude.{Option, Some, None, is_some, Contains}
use Rattle.std.specs.Borrow.{Bor}
use Rattle.sd_sid.specs.Sid.{SidValue}
use Rattle.sd_line.specs.Line.{LineOf}
use Rattle.sd_answer.specs.Word.{texts}
use Rattle.sd_accounts.specs.Membership.{MembershipValue}
use Rattle.sd_accounts.specs.Row.{AccountRow}
use Rattle.sd_accounts.specs.Users.{users_of}
use Rattle.sd_named.specs.Arguments.{AreNamedWords, AreOfAccount, starts}
use Rattle.sd_named.specs.declared.word.NamedWord.{NamedWord}
use Rattle.sd_usage.specs.declared.row.DescriptorCommand.TheVariants.{Why}
use Rattle.sd_usage.specs.declared.row.TextCommand.TheVariants.{Descriptor}
use Rattle.sd_commands.specs.Answer.{AnswerValue, answer_of, or_worse}
use Rattle.sd_commands.specs.CommandAnswer.{AnswersQuestion}
use Rattle.sd_commands.specs.Logon.{words_for}
use Rattle.sd_commands.specs.declared.command_answer.Outcome.{Outcome}
use Rattle.sd_commands.specs.declared.command_answer.Outcome.TheVariants.{Refused, Fault}
use Rattle.sd_commands.specs.declared.settings.Settings.{Settings}
use Rattle.sd_people.specs.Asked.{EachAsked, PeopleAsked, Granted, Changed, asked_of_each}
use Rattle.sd_people.specs.Change.{all_granted, changes, granted_mask}
use Rattle.sd_people.specs.Lines.{Told, User, leaves_out, left_out}
use Rattle.sd_people.specs.Names.{AreNames}
use Rattle.sd_people.specs.Naming.{NamesOf, named_line, named_told, sids_named}
use Rattle.sd_people.specs.Passed.{GrantsNothing}
use Rattle.sd_people.specs.Way.{AreGranted}
use Rattle.sd_people.specs.declared.people.People.{People}
use Rattle.sd_people.specs.declared.people.People.TheVariants as people

-- ---- one user

-- the answer to `why` for the user of an account, with the groups that it really has
pub record IsWhy (rows : List AccountRow) (settings : Settings) (text mask : List ℕ) (words : List NamedWord)
    (user : SidValue) (answer : AnswerValue) : Type 0 where
  pub arguments : List (Bor (List ℕ))
  pub are_of : AreOfAccount rows (is_some settings.logon) user mask words (texts arguments)
  pub answers : AnswersQuestion settings (Descriptor Why) text arguments answer

-- the groups are those of the user, who has these words
abbrev pub IsMemberOf : List AccountRow → Settings → List NamedWord → SidValue → MembershipValue → Type 0
IsMemberOf rows settings words user member =
    (member.rows ≡ rows) × (member.starts ≡ starts (is_some settings.logon) user words)

-- what is said about people, and whether something was left out; or the answer to one of them that is a fault
pub data PeopleValue : Type 0 where
  Said : List Told → (left : Bool) → PeopleValue
  Failed : AnswerValue → PeopleValue

abbrev pub people_of : People → PeopleValue
people_of (people.Told told left) = Said told.items left
people_of (people.Fault answer) = Failed (answer_of answer)

-- what is said of the user's answer, which isn't a fault, to what its lines are; or it is a fault
abbrev pub SaysOf : (List LineOf → List Told → Type 0) → AnswerValue → PeopleValue → Type 0
SaysOf Tells answer (Said told left) =
    (answer.outcome ≡ Fault → ⊥) × Tells answer.lines told × (left ≡ leaves_out answer.lines)
SaysOf Tells answer (Failed fault) = (answer.outcome ≡ Fault) × (fault ≡ answer)

-- the lines of what is granted to the user; the first line is the verdict's
abbrev pub AreGrants : List AccountRow → List SidValue → User → List LineOf → List Told → Type 0
AreGrants rows starts user lines told = AreGranted rows starts user (drop 1 lines) told

-- what the two answers, which aren't faults, say that the user gains and loses; or the first of them that is a fault
abbrev pub SaysChange : User → (old new : AnswerValue) → PeopleValue → Type 0
SaysChange user old new (Said told left) =
    (old.outcome ≡ Fault → ⊥) × (new.outcome ≡ Fault → ⊥)
    × (told ≡ changes user (granted_mask old.lines) (granted_mask new.lines))
    × (left ≡ (leaves_out old.lines || leaves_out new.lines))
SaysChange user old new (Failed fault) =
    ((old.outcome ≡ Fault) × (fault ≡ old)) ⊎ ((new.outcome ≡ Fault) × (fault ≡ new))

-- what is said of a user
abbrev pub IsOfUser : List AccountRow → Settings → List NamedWord → EachAsked → User → PeopleValue → Type 0
IsOfUser rows settings words (Granted text mask) user said = (answer : AnswerValue)
    × IsWhy rows settings text mask words user.0 answer
    × SaysOf (AreGrants rows (starts (is_some settings.logon) user.0 words) user) answer said
IsOfUser rows settings words (Changed old new) user said = (before : AnswerValue) × (after : AnswerValue)
    × IsWhy rows settings old all_granted words user.0 before × IsWhy rows settings new all_granted words user.0 after
    × SaysChange user before after said

-- ---- all users

-- whatever `why` answers of the user, nothing is granted to it (that there is an answer would take a walk over its
-- groups)
abbrev pub IsGrantedNothing : List AccountRow → Settings → List NamedWord → EachAsked → SidValue → Type 0
IsGrantedNothing rows settings words (Granted text mask) user =
    (answer : AnswerValue) → IsWhy rows settings text mask words user answer → GrantsNothing answer
IsGrantedNothing rows settings words (Changed old new) user = ⊥

-- what is said of the users in turn, of whom none has a fault for an answer; one to whom nothing is granted may be
-- passed over
pub data AreTold (rows : List AccountRow) (settings : Settings) (words : List NamedWord) (each : EachAsked)
    : List User → List Told → Bool → Type 0 where
  nobody : AreTold rows settings words each [] [] false
  further : (users : List User) (told : List Told) (left : Bool) (user : User) (more : List Told) (some : Bool)
      → AreTold rows settings words each users told left → IsOfUser rows settings words each user (Said more some)
      → AreTold rows settings words each (users ++ user ∷ []) (told ++ more) (left || some)
  passed : (users : List User) (told : List Told) (left : Bool) (user : User)
      → AreTold rows settings words each users told left → IsGrantedNothing rows settings words each user.0
      → AreTold rows settings words each (users ++ user ∷ []) told left

-- what is said of all of them; or the answer to one of them that is a fault
abbrev pub IsOfUsers : List AccountRow → Settings → List NamedWord → EachAsked → List User → PeopleValue → Type 0
IsOfUsers rows settings words each users (Said told left) = AreTold rows settings words each users told left
IsOfUsers rows settings words each users (Failed fault) =
    (user : User) × Contains users user × IsOfUser rows settings words each user (Failed fault)

-- of all that may log on, who have these words beside their own groups; where nobody is asked nothing is said
abbrev pub IsOfPeople : List AccountRow → Settings → Option (EachAsked × List (List ℕ)) → PeopleValue → Type 0
IsOfPeople rows settings None said = said ≡ Said [] false
IsOfPeople rows settings (Some asked) said = (ones : List NamedWord)
    × AreNamedWords rows settings.aliases (words_for settings.logon asked.1) ones
    × IsOfUsers rows settings ones asked.0 (users_of rows) said

-- ---- the answer

-- the lines for all tokens and those about people, with names
pub record AreShown (asked : PeopleAsked) (lines : List LineOf) (told : List Told) (shown : List LineOf)
    : Type 0 where
  pub names : NamesOf
  pub are_names : AreNames asked.rows asked.settings.aliases names (sids_named asked.style lines told)
  pub are : shown ≡ map (named_line asked.style names) lines ++ map (named_told asked.style names) told

-- the outcome, where something was left out of what is said about people
abbrev pub outcome_with : Bool → Outcome → Outcome
outcome_with true outcome = or_worse outcome Refused
outcome_with false outcome = outcome

-- what was left out is said once
abbrev pub AnswersWith : PeopleAsked → AnswerValue → PeopleValue → AnswerValue → Type 0
AnswersWith asked plain (Said told left) answer = (shown : List LineOf) × AreShown asked plain.lines told shown
    × (answer.lines ≡ shown ++ left_out (left && not (leaves_out plain.lines)))
    × (answer.told ≡ plain.told) × (answer.outcome ≡ outcome_with left plain.outcome)
AnswersWith asked plain (Failed fault) answer = answer ≡ fault

-- a fault stays as it is; to any other answer is added what is said about people
abbrev pub AnswersByPeople : PeopleAsked → AnswerValue → AnswerValue → Type 0
AnswersByPeople asked plain answer =
    ((plain.outcome ≡ Fault) × (answer ≡ plain))
    ⊎ ((plain.outcome ≡ Fault → ⊥) × (said : PeopleValue)
    × IsOfPeople asked.rows asked.settings (asked_of_each asked) said × AnswersWith asked plain said answer)
