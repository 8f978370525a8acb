-- The options of a command line: what may stand between the program's name and the command, and what they say.
use Rattle.std.specs.Prelude.{◌≡◌, ℕ, List, [], ◌∷◌, ◌++◌, map, replicate, get_or, slice_set, length, nat_lt, take}
use Rattle.std.specs.Prelude.{Bool, true, false, not}
use Rattle.std.specs.Prelude.{⊤, ◌⊎◌, ◌&&◌, ◌||◌, is_some, if◌then◌else◌, Option, Some, None, option_map, Result, Ok}
use Rattle.std.specs.Prelude.{MatchResult}
use Rattle.std.specs.Option.{option_and_then}
use Rattle.std.specs.Borrow.{Bor}
use Rattle.sd_sid.specs.Mapping.{MappingValue}
use Rattle.sd_sid.specs.Sid.{SidValue}
use Rattle.sd_text.specs.Domain.{domain_sid}
use Rattle.sd_text.specs.Grammar.{Spells}
use Rattle.sd_text.specs.Sid.{sid_text, sid_text_in}
use Rattle.sd_text.specs.declared.alias.Aliases.{Aliases as AliasesValue}
use Rattle.sd_text.specs.declared.domain.Domain.{Domain as DomainValue}
use Rattle.sd_edit.specs.Limits.{IsLimits, LimitsValue, standard_limits}
use Rattle.sd_script.specs.Argument.{IsNumber}
use Rattle.sd_script.specs.declared.script_options.ScriptOptions.{ScriptOptions}
use Rattle.sd_script.specs.declared.paths.PathSpelling.TheVariants as paths
use Rattle.sd_line.specs.declared.print.Output.{Output}
use Rattle.sd_line.specs.declared.print.Output.TheVariants as outputs
use Rattle.sd_line.specs.declared.print.Style.{Style}
use Rattle.sd_line.specs.declared.spelling.Spelling.{Spelling}
use Rattle.sd_line.specs.declared.spelling.Spelling.TheVariants.{Number, Names as ByNames}
use Rattle.sd_usage.specs.Table.{option_named, place, takes_option}
use Rattle.sd_answer.specs.Word.{AreEach, texts}
use Rattle.sd_usage.specs.declared.row.Beside.{Beside}
use Rattle.sd_usage.specs.declared.row.Beside.TheVariants.{Any, With, Without}
use Rattle.sd_usage.specs.declared.row.OptionName.{OptionName}
use Rattle.sd_usage.specs.declared.row.OptionName.TheVariants.{Accounts, Aliases, Base64, Below, Caret, Color, Concern}
use Rattle.sd_usage.specs.declared.row.OptionName.TheVariants.{Domain, Edits, Json, Logon, Loose, Mapping, Names}
use Rattle.sd_usage.specs.declared.row.OptionName.TheVariants.{Nodes, Object, Percent, PrincipalSelf}
use Rattle.sd_usage.specs.declared.row.OptionName.TheVariants.{RequireDacl, Risks, «Type», Whole, WithoutBits}
use Rattle.sd_usage.specs.declared.row.ProgramOption.{ProgramOption}
use Rattle.sd_usage.specs.declared.row.TheConstants.{OPTION_COUNT}
use Rattle.sd_commands.specs.Chain.{IsFirstUnfit, IsType, types_of}
use Rattle.sd_commands.specs.Concern.{GivesConcern, GivesNoConcern, sids_of}
use Rattle.sd_commands.specs.Logon.{GivesLogon, GivesNoLogon}
use Rattle.sd_commands.specs.Mapping.{GivesMapping, GivesNoMapping, kind_given}
use Rattle.sd_commands.specs.declared.chain.TheConstants.{MAX_TYPES}
use Rattle.sd_commands.specs.declared.logon.Logon.{Logon as LogonValue}
use Rattle.sd_commands.specs.declared.settings.ByteForm.{ByteForm}
use Rattle.sd_commands.specs.declared.settings.ByteForm.TheVariants as forms
use Rattle.sd_arguments.specs.declared.options.BadValue.{BadValue}
use Rattle.sd_arguments.specs.declared.options.BadValue.TheVariants.{NoAccounts, NoConcern, NoDomain, NoEdits, NoLogon}
use Rattle.sd_arguments.specs.declared.options.BadValue.TheVariants.{NoMapping, NoNodes, NoSelf, NoType}
use Rattle.sd_arguments.specs.declared.options.Options.{Options}
use Rattle.sd_commands.specs.declared.settings.Settings.{Settings}
use Rattle.sd_whole.specs.declared.types.Guid.{Guid}

pub record OptionsValue : Type 0 where
  -- at the place of each option its value, where it is given: empty for one without a value, and of `--type` the last
  pub values : List (Option (List ℕ))
  -- the values of `--type`, in order
  pub types : List (List ℕ)

abbrev pub options_of : Options → OptionsValue
options_of options = record {
  values = map (option_map (λ text. text.now)) options.values;
  types = texts (take options.type_count options.types);
}

abbrev pub no_options : OptionsValue
no_options = record { values = replicate OPTION_COUNT None; types = [] }

-- the value of an option, where it is given
abbrev pub given : OptionsValue → OptionName → Option (List ℕ)
given options option = get_or options.values (place option) None

abbrev pub has : OptionsValue → OptionName → Bool
has options option = is_some (given options option)

abbrev pub with_value : OptionsValue → OptionName → List ℕ → OptionsValue
with_value options option value = record options { values = slice_set options.values (place option) (Some value) }

-- the option may be given again
abbrev pub is_repeated : OptionName → Bool
is_repeated «Type» = true
is_repeated option = false

-- one more object type, where there are fewer than five
abbrev pub with_type : OptionsValue → OptionName → List ℕ → Option OptionsValue
with_type options option value =
    if nat_lt (length options.types) MAX_TYPES
    then Some (record (with_value options option value) { types = options.types ++ value ∷ [] }) else None

-- one more option, where it isn't one of these already, or may be given again
abbrev pub with_option : OptionsValue → OptionName → List ℕ → Option OptionsValue
with_option options option value =
    if is_repeated option then with_type options option value
    else if has options option then None
    else Some (with_value options option value)

-- the options that the arguments begin with, each at most once but for `--type`, and the arguments after them; where an
-- option that has a value is before them, that is the first
abbrev pub options_from : Option OptionName → OptionsValue → List (Bor (List ℕ))
    → Option (OptionsValue × List (Bor (List ℕ)))
options_from None options [] = Some (options, [])
options_from (Some option) options [] = None
options_from None options (word ∷ words) =
    elim (option_named word.now) [
      | Some option ↦ if is_some option.value then options_from (Some option.name) options words
          else option_and_then (λ more. options_from None more words) (with_option options option.name [])
      | None ↦ Some (options, word ∷ words)
    ]
options_from (Some option) options (value ∷ words) =
    option_and_then (λ more. options_from None more words) (with_option options option value.now)

abbrev pub options_in : OptionsValue → List (Bor (List ℕ)) → Option (OptionsValue × List (Bor (List ℕ)))
options_in = options_from None

-- ---- before which commands they go

-- the option may be given beside the others, before the command of this name
abbrev pub fits_beside : List ℕ → OptionsValue → Beside → Bool
fits_beside name options Any = true
fits_beside name options (Without other) = not (has options other)
fits_beside name options (With one other taken also) =
    has options one && not (has options other) && (not (takes_option name taken) || has options also)

-- the option may go before the command of this name, and beside the others
abbrev pub goes_before : List ℕ → OptionsValue → ProgramOption → Bool
goes_before name options option = takes_option name option.name && fits_beside name options option.beside

-- each of the options that the arguments begin with may go before the command of this name: an option's value is none
abbrev pub go_before_from : Bool → List ℕ → OptionsValue → List (Bor (List ℕ)) → Bool
go_before_from is_value name options [] = true
go_before_from true name options (value ∷ words) = go_before_from false name options words
go_before_from false name options (word ∷ words) =
    elim (option_named word.now) [
      | None ↦ true
      | Some option ↦ goes_before name options option && go_before_from (is_some option.value) name options words
    ]

abbrev pub go_before : List ℕ → OptionsValue → List (Bor (List ℕ)) → Bool
go_before = go_before_from false

-- ---- what they say

-- how masks are told
abbrev pub spelling_of : OptionsValue → Spelling
spelling_of options = if has options Names then ByNames (kind_given (given options Mapping)) else Number

-- what lines are printed as: an object of JSON has no colour
abbrev pub output_of : OptionsValue → Output
output_of options =
    if has options Json then outputs.Json else (if has options Color then outputs.Coloured else outputs.Text)

-- how answers are printed
abbrev pub style_of : OptionsValue → Style
style_of options = record { spelling = spelling_of options; output = output_of options }

-- how bytes are spelled
abbrev pub byte_form : OptionsValue → ByteForm
byte_form options = if has options Base64 then forms.Base64 else (if has options Loose then forms.Loose else forms.Hex)

-- the text is the SID of this domain, or neither is there
abbrev pub GivesDomain : Option (List ℕ) → Option DomainValue → Type 0
GivesDomain None None = ⊤
GivesDomain (Some text) (Some domain) = Spells sid_text text (domain_sid domain)
GivesDomain given domain = ⊥

-- the text is no domain's SID
abbrev pub IsNoDomain : List ℕ → Type 0
IsNoDomain text = (domain : DomainValue) → Spells sid_text text (domain_sid domain) → ⊥

-- the text is this SID, or neither is there
abbrev pub GivesSelf : AliasesValue → Option (List ℕ) → Option SidValue → Type 0
GivesSelf known None None = ⊤
GivesSelf known (Some text) (Some sid) = Spells (sid_text_in known) text sid
GivesSelf known given sid = ⊥

-- the text is there, and is no SID
abbrev pub GivesNoSelf : AliasesValue → Option (List ℕ) → List ℕ → Type 0
GivesNoSelf known None text = ⊥
GivesNoSelf known (Some given) text = (text ≡ given) × ((sid : SidValue) → Spells (sid_text_in known) given sid → ⊥)

-- the value of `--self` isn't read, with these aliases
abbrev pub IsBadSelf : OptionsValue → AliasesValue → BadValue → Type 0
IsBadSelf options known (NoSelf text with points) =
    (with ≡ known) × GivesNoSelf known (given options PrincipalSelf) text.now × (points ≡ has options Caret)
IsBadSelf options known bad = ⊥

-- what the options say of a descriptor
pub record AreSettings (options : OptionsValue) (settings : Settings) : Type 0 where
  pub accounts : has options Accounts ≡ false
  pub spelling : settings.spelling ≡ spelling_of options
  pub domain : GivesDomain (given options Domain) settings.aliases.domain
  pub later : settings.aliases.later ≡ has options Aliases
  pub mapping : GivesMapping (given options Mapping) settings.mapping
  pub kind : settings.kind ≡ kind_given (given options Mapping)
  pub logon : GivesLogon (given options Logon) settings.logon
  pub whole : settings.whole ≡ has options Whole
  pub chain : AreEach IsType options.types (types_of settings.chain)
  pub principal_self : GivesSelf settings.aliases (given options PrincipalSelf) settings.principal_self
  pub without_bits : settings.without_bits ≡ has options WithoutBits
  pub require_dacl : settings.require_dacl ≡ has options RequireDacl
  pub below : settings.below ≡ has options Below
  pub object : settings.object ≡ has options Object
  pub risks : settings.risks ≡ (has options Risks || has options Concern)
  pub concern : GivesConcern settings.aliases (given options Concern) (sids_of settings.concern)
  pub bytes : settings.bytes ≡ byte_form options
  pub points : settings.points ≡ has options Caret

-- the aliases that are known
abbrev pub GivesAliases : OptionsValue → AliasesValue → Type 0
GivesAliases options known = GivesDomain (given options Domain) known.domain × (known.later ≡ has options Aliases)

-- the mapping and the logon are read
abbrev pub HasGoodLogon : OptionsValue → Type 0
HasGoodLogon options = ((mapping : MappingValue) × GivesMapping (given options Mapping) mapping)
    × ((logon : Option LogonValue) × GivesLogon (given options Logon) logon)

-- the object types are read
abbrev pub HasGoodTypes : OptionsValue → Type 0
HasGoodTypes options = (types : List Guid) × AreEach IsType options.types types

-- the value of an option isn't read: that of accounts; or else the domain's, or else the mapping's, or else that of the
-- logon, or else an object type, or else the SID of PRINCIPAL SELF, or else a part of that of SIDs of concern
abbrev pub HasBadValue : OptionsValue → BadValue → Type 0
HasBadValue options (NoDomain text points) =
    (given options Domain ≡ Some text.now) × IsNoDomain text.now × (points ≡ has options Caret)
HasBadValue options NoAccounts = has options Accounts ≡ true
HasBadValue options NoMapping = ((domain : Option DomainValue) × GivesDomain (given options Domain) domain)
    × GivesNoMapping (given options Mapping)
HasBadValue options NoLogon = ((domain : Option DomainValue) × GivesDomain (given options Domain) domain)
    × ((mapping : MappingValue) × GivesMapping (given options Mapping) mapping)
    × GivesNoLogon (given options Logon)
HasBadValue options (NoType text) = HasGoodLogon options × IsFirstUnfit [] options.types text.now
HasBadValue options (NoSelf text known points) = HasGoodLogon options × HasGoodTypes options
    × GivesAliases options known × IsBadSelf options known (NoSelf text known points)
HasBadValue options (NoConcern text known points) = HasGoodLogon options × HasGoodTypes options
    × ((sid : Option SidValue) × GivesSelf known (given options PrincipalSelf) sid)
    × GivesAliases options known × GivesNoConcern known (given options Concern) text.now
    × (points ≡ has options Caret)
HasBadValue options bad = ⊥

-- these settings, or this value that isn't read
abbrev pub GivesSettings : OptionsValue → Result Settings BadValue → Type 0
GivesSettings options said = MatchResult said (AreSettings options) (HasBadValue options)

-- ---- what they say of a script

-- the number that an option's value writes in decimal digits, and without the option the standard one
abbrev pub GivesNumber : Option (List ℕ) → ℕ → ℕ → Type 0
GivesNumber None standard n = n ≡ standard
GivesNumber (Some text) standard n = IsNumber text n

-- limits of as many nodes as the options say, and of as many edits
abbrev pub HasNodes : OptionsValue → LimitsValue → Type 0
HasNodes options limits = IsLimits limits × GivesNumber (given options Nodes) standard_limits.nodes limits.nodes

abbrev pub HasEdits : OptionsValue → LimitsValue → Type 0
HasEdits options limits = IsLimits limits × GivesNumber (given options Edits) standard_limits.edits limits.edits

-- no limits have so many nodes, or else none so many edits
abbrev pub HasBadLimit : OptionsValue → BadValue → Type 0
HasBadLimit options NoNodes = (limits : LimitsValue) → HasNodes options limits → ⊥
HasBadLimit options NoEdits = ((limits : LimitsValue) × HasNodes options limits)
    × ((limits : LimitsValue) → HasEdits options limits → ⊥)
HasBadLimit options bad = ⊥

-- these limits, or this value that isn't read
abbrev pub GivesLimits : OptionsValue → Result LimitsValue BadValue → Type 0
GivesLimits options said =
    MatchResult said (λ limits. HasNodes options limits × HasEdits options limits) (HasBadLimit options)

-- how a script is carried out
pub record AreScriptOptions (options : OptionsValue) (script_options : ScriptOptions) : Type 0 where
  pub mapping : GivesMapping (given options Mapping) script_options.mapping
  pub limits : GivesLimits options (Ok script_options.limits)
  pub paths : script_options.notation.paths ≡ (if has options Percent then paths.Percent else paths.Plain)
  pub spelling : script_options.notation.spelling ≡ spelling_of options
  pub kind : script_options.notation.kind ≡ kind_given (given options Mapping)
  pub domain : GivesDomain (given options Domain) script_options.notation.aliases.domain
  pub later : script_options.notation.aliases.later ≡ has options Aliases
  pub whole : script_options.notation.whole ≡ has options Whole
  pub output : script_options.notation.output ≡ output_of options

-- in this manner, or this value that isn't read: a limit's only where the others' are
abbrev pub GivesScriptOptions : OptionsValue → Result ScriptOptions BadValue → Type 0
GivesScriptOptions options said = MatchResult said (AreScriptOptions options) (λ bad.
    HasBadValue options bad ⊎ (((settings : Settings) × AreSettings options settings) × HasBadLimit options bad))
