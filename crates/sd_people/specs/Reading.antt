-- What `why` reads of a plain text and a mask, the same for all users; and what it says of a token.
use Rattle.std.specs.Prelude.{◌≡◌, ℕ, false, List, [], Option, Some, None, map}
use Rattle.sd_sid.specs.Sid.{SidValue}
use Rattle.sd_acl.specs.Descriptor.{descriptor_of}
use Rattle.sd_check.specs.Check.{dacl_entries, verdict}
use Rattle.sd_check.specs.Token.{TokenValue, plain_token}
use Rattle.sd_check.specs.declared.token.GroupState.{GroupState}
use Rattle.sd_check.specs.declared.token.GroupState.TheVariants.{Enabled}
use Rattle.sd_text.specs.Grammar.{Spells}
use Rattle.sd_text.specs.Sddl.{sddl_in}
use Rattle.sd_line.specs.Mask.{IsMaskIn}
use Rattle.sd_line.specs.Request.{requested}
use Rattle.sd_answer.specs.Why.{why_lines}
use Rattle.sd_commands.specs.Answer.{AnswerValue, IsAnswer}
use Rattle.sd_commands.specs.Required.{missing_dacl}
use Rattle.sd_commands.specs.WholeVerdict.{verdict_outcome}
use Rattle.sd_commands.specs.declared.settings.Settings.{Settings}
use Rattle.sd_named.specs.declared.word.NamedWord.{NamedWord}
use Rattle.sd_people.specs.Asked.{Changed, EachAsked, Granted}
use Rattle.sd_people.specs.Change.{all_granted}
use Rattle.sd_people.specs.declared.reading.Reading.{Reading}
use Rattle.sd_people.specs.declared.reading.Readings.{Readings}

-- of a plain text and a mask that it takes, without a logon, `why` reads this
pub record IsReadingOf (settings : Settings) (text mask : List ℕ) (reading : Reading) : Type 0 where
  pub whole : settings.whole ≡ false
  pub logon : settings.logon ≡ None
  pub is_mask : IsMaskIn settings.spelling mask reading.asked
  pub spells : Spells (sddl_in settings.aliases) text (descriptor_of reading.descriptor)
  pub taken : missing_dacl settings.require_dacl reading.descriptor.dacl ≡ None

-- where there is a reading it is of these, and there are no words
abbrev pub IsReady : Settings → List NamedWord → (text mask : List ℕ) → Option Reading → Type 0
IsReady settings words text mask None = Unit {0}
IsReady settings words text mask (Some reading) = (words ≡ []) × IsReadingOf settings text mask reading

-- so are they for what is asked of each user
abbrev pub AreReady : Settings → List NamedWord → EachAsked → Readings → Type 0
AreReady settings words (Granted text mask) readings = IsReady settings words text mask readings.first
AreReady settings words (Changed old new) readings =
    IsReady settings words old all_granted readings.first × IsReady settings words new all_granted readings.second

-- the token of a user with these groups, all enabled
abbrev pub enabled : SidValue → SidValue × GroupState
enabled sid = (sid, Enabled)

abbrev pub token_with : SidValue → List SidValue → TokenValue
token_with user groups = plain_token user (map enabled groups)

-- the answer is the verdict on what is read for the token, and why
abbrev pub SaysWhy : Settings → Reading → TokenValue → AnswerValue → Type 0
SaysWhy settings reading token =
    let d = descriptor_of reading.descriptor in let asked = requested settings.kind reading.asked in
    IsAnswer (why_lines settings.mapping d token asked) []
    (verdict_outcome (verdict d.owner (dacl_entries d.dacl) settings.mapping token asked))
