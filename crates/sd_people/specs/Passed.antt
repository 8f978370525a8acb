-- Who is passed over: a user to whom `why` grants nothing, since it has no SID that the descriptor speaks of.
use Rattle.std.specs.Prelude.{◌≡◌, ℕ, Bool, true, false, not, ◌&&◌, List, Option, Some, None, Contains, codes, drop}
use Rattle.std.specs.Prelude.{◌++◌, [], if◌then◌else◌}
use Rattle.std.specs.List.{AllByRecursion, filter_map}
use Rattle.std.specs.Option.{option_to_list}
use Rattle.sd_sid.specs.Sid.{SidValue}
use Rattle.sd_acl.specs.Ace.{is_allow, is_inherit_only}
use Rattle.sd_acl.specs.Descriptor.{DescriptorValue}
use Rattle.sd_acl.specs.declared.ace.Ace.{Ace}
use Rattle.sd_acl.specs.declared.descriptor.DaclOf.TheVariants.{List as Entries}
use Rattle.sd_text.specs.Grammar.{Spells}
use Rattle.sd_text.specs.Sddl.{sddl_in}
use Rattle.sd_line.specs.Line.{is_of}
use Rattle.sd_line.specs.Mask.{IsMaskIn}
use Rattle.sd_commands.specs.Answer.{AnswerValue}
use Rattle.sd_commands.specs.declared.command_answer.Outcome.TheVariants.{Fault}
use Rattle.sd_commands.specs.declared.settings.Settings.{Settings}
use Rattle.sd_accounts.specs.Row.{AccountRow}
use Rattle.sd_accounts.specs.Search.{searched, wanted_by}
use Rattle.sd_accounts.specs.declared.search.Search.{Search}
use Rattle.sd_named.specs.declared.word.NamedWord.{NamedWord}
use Rattle.sd_people.specs.Asked.{Changed, EachAsked, Granted}
use Rattle.sd_people.specs.Lines.{leaves_out}

-- the answer is no fault, no line of it but the first says `granted`, and none that something was left out
pub record GrantsNothing (answer : AnswerValue) : Type 0 where
  pub done : answer.outcome ≡ Fault → ⊥
  pub none : AllByRecursion (λ l. is_of (codes "granted") l ≡ false) (drop 1 answer.lines)
  pub whole : leaves_out answer.lines ≡ false

-- of a plain text and a mask: whoever the descriptor's list grants something has one of these SIDs
pub record Speaks (settings : Settings) (text mask : List ℕ) (wanted : List SidValue) : Type 0 where
  pub whole : settings.whole ≡ false
  pub logon : settings.logon ≡ None
  pub is_mask : (asked : ℕ) × IsMaskIn settings.spelling mask asked
  pub descriptor : DescriptorValue
  pub spells : Spells (sddl_in settings.aliases) text descriptor
  pub entries : List Ace
  pub list : descriptor.dacl ≡ Entries entries
  pub owner : (sid : SidValue) → descriptor.owner ≡ Some sid → Contains wanted sid
  pub allowed : AllByRecursion (λ (e : Ace). (not (is_inherit_only e) && is_allow e.kind) ≡ true
      → Contains wanted e.sid) entries

-- whom an entry allows something, as it stands there, if it is an effective allow entry
abbrev pub allowed_sid : Ace → Option SidValue
allowed_sid e = if not (is_inherit_only e) && is_allow e.kind then Some e.sid else None

-- the owner, and whom effective entries allow something
abbrev pub subjects : Option SidValue → List Ace → List SidValue
subjects owner entries = option_to_list owner ++ filter_map allowed_sid entries

-- the search is for whom the descriptor's list grants something, of users without words
abbrev pub IsFit : List AccountRow → Settings → List NamedWord → EachAsked → Option Search → Type 0
IsFit rows settings words each None = Unit {0}
IsFit rows settings words (Granted text mask) (Some search) =
    (words ≡ []) × (searched search ≡ rows) × Speaks settings text mask (wanted_by search)
IsFit rows settings words (Changed old new) (Some search) = ⊥
