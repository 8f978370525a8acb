-- Lines with texts in the place of SIDs.
use Rattle.std.specs.Prelude.{ℕ, Bool, List, Option, Some, None, if◌then◌else◌, map}
use Rattle.std.specs.List.{list_any}
use Rattle.sd_sid.specs.Sid.{SidValue}
use Rattle.sd_line.specs.Line.{LineOf, PartOf, line_with, part_of}
use Rattle.sd_line.specs.Printed.{marked_text}
use Rattle.sd_line.specs.declared.line.SidMark.{SidMark}
use Rattle.sd_line.specs.declared.line.SidMark.TheVariants as states
use Rattle.sd_line.specs.declared.line.Value.{Value}
use Rattle.sd_line.specs.declared.line.Value.TheVariants as values

-- the SIDs that make words of those listed beside them, and the text of a SID in a state, if it has one
pub record TextsOf : Type 0 where
  pub has : SidValue → Bool
  pub text : SidValue → SidMark → Option (List ℕ)

abbrev pub sid_word : SidValue × SidMark → Option (List ℕ) → List ℕ
sid_word one None = marked_text one
sid_word one (Some text) = text

abbrev pub shown_sid : TextsOf → SidValue × SidMark → List ℕ
shown_sid texts one = sid_word one (texts.text one.0 one.1)

abbrev pub sid_value : SidValue → Option (List ℕ) → Value
sid_value sid None = values.Sid sid
sid_value sid (Some text) = values.Text text

abbrev pub has_text : TextsOf → List (SidValue × SidMark) → Bool
has_text texts sids = list_any (λ (one : SidValue × SidMark). texts.has one.0) sids

abbrev pub sids_value : TextsOf → List (SidValue × SidMark) → Value
sids_value texts sids = if has_text texts sids then values.Words (map (shown_sid texts) sids) else values.Sids sids

abbrev pub shown_value : TextsOf → Value → Value
shown_value texts (values.Sid sid) = sid_value sid (texts.text sid states.Plain)
shown_value texts (values.Sids sids) = sids_value texts sids
shown_value texts value = value

abbrev pub shown_part : TextsOf → PartOf → PartOf
shown_part texts p = part_of p.form (map (shown_value texts) p.values)

abbrev pub shown_line : TextsOf → LineOf → LineOf
shown_line texts l = line_with l.kind (map (shown_part texts) l.parts)
