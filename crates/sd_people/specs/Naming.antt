-- Lines with names in the place of SIDs.
use Rattle.std.specs.Prelude.{ℕ, Bool, true, false, List, [], ◌∷◌, ◌++◌, Option, codes, if◌then◌else◌, map}
use Rattle.std.specs.Prelude.{flat_map, fold, is_some, option_map}
use Rattle.std.specs.List.{filter_map}
use Rattle.sd_sid.specs.Sid.{SidValue}
use Rattle.sd_text.specs.Canon.{full_canon}
use Rattle.sd_line.specs.Line.{LineOf, PartOf, part_of, with_tail}
use Rattle.sd_line.specs.Printed.{mark_text}
use Rattle.sd_line.specs.declared.line.SidMark.{SidMark}
use Rattle.sd_line.specs.declared.line.Value.{Value}
use Rattle.sd_line.specs.declared.line.Value.TheVariants as values
use Rattle.sd_line.specs.declared.print.Output.{Output}
use Rattle.sd_line.specs.declared.print.Output.TheVariants.{Coloured, Json, Text}
use Rattle.sd_line.specs.declared.print.Style.{Style}
use Rattle.sd_line.specs.declared.spelling.Spelling.{Spelling}
use Rattle.sd_line.specs.declared.spelling.Spelling.TheVariants.{Names, Number}
use Rattle.sd_analysis.specs.Risks.{with_sid}
use Rattle.sd_commands.specs.SidTexts.{TextsOf, shown_line}
use Rattle.sd_people.specs.Lines.{Told}
use Rattle.sd_people.specs.Names.{has_byte}
use Rattle.sd_people.specs.declared.forms.TheConstants.{NAMES}

abbrev pub NamesOf : Type 0
NamesOf = SidValue → Option (List ℕ)

-- names are asked for, as masks are by theirs
abbrev pub has_names : Spelling → Bool
has_names Number = false
has_names (Names kind) = true

-- ---- the SIDs of a line

abbrev pub listed_sid : SidValue × SidMark → SidValue
listed_sid one = one.0

abbrev pub sids_of_value : Value → List SidValue
sids_of_value (values.Sid sid) = sid ∷ []
sids_of_value (values.Sids sids) = map listed_sid sids
sids_of_value (values.Entry entry) = entry.sid ∷ []
sids_of_value value = []

abbrev pub sids_of_part : PartOf → List SidValue
sids_of_part p = flat_map sids_of_value p.values

abbrev pub sids_of_line : LineOf → List SidValue
sids_of_line l = flat_map sids_of_part l.parts

-- of a line about a person those before the person
abbrev pub sids_of_told : Told → List SidValue
sids_of_told told = sids_of_line told.0

-- those that may be shown by names
abbrev pub sids_named : Style → List LineOf → List Told → List SidValue
sids_named style lines told =
    if has_names style.spelling then flat_map sids_of_line lines ++ flat_map sids_of_told told else []

-- ---- names in a text

-- a name with a blank stands between quotation marks
abbrev pub name_word : List ℕ → List ℕ
name_word name = if has_byte 32 name then codes "\"" ++ (name ++ codes "\"") else name

-- it stands in the place of the SID, with what that is in a token
abbrev pub name_text : SidMark → List ℕ → List ℕ
name_text state name = name_word name ++ mark_text state

abbrev pub texts_of : NamesOf → TextsOf
texts_of names = record {
  has = λ (sid : SidValue). is_some (names sid);
  text = λ (sid : SidValue) (state : SidMark). option_map (name_text state) (names sid);
}

abbrev pub named_text : NamesOf → LineOf → LineOf
named_text names l = shown_line (texts_of names) l

-- ---- names in an object, beside the SIDs

abbrev pub sid_and_name : NamesOf → SidValue → Option (List ℕ)
sid_and_name names sid = option_map (λ (name : List ℕ). full_canon sid ++ (codes " " ++ name)) (names sid)

-- each once, where it stands first
abbrev pub once : List SidValue → List SidValue
once sids = fold with_sid [] sids

abbrev pub with_words : List (List ℕ) → LineOf → LineOf
with_words [] l = l
with_words (word ∷ words) l = with_tail (part_of NAMES.now (values.Words (word ∷ words) ∷ [])) l

abbrev pub named_object : NamesOf → LineOf → LineOf
named_object names l = with_words (filter_map (sid_and_name names) (once (sids_of_line l))) l

-- ---- lines

abbrev pub named_in : Output → NamesOf → LineOf → LineOf
named_in Json names l = named_object names l
named_in Text names l = named_text names l
named_in Coloured names l = named_text names l

-- without names a line stands as it is
abbrev pub named_line : Style → NamesOf → LineOf → LineOf
named_line style names l = if has_names style.spelling then named_in style.output names l else l

-- a line about a person: the person stands after the names
abbrev pub named_told : Style → NamesOf → Told → LineOf
named_told style names told = with_tail told.1 (named_line style names told.0)
