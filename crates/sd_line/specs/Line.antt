-- A line of an answer: its kind, and its parts, of which nothing is spelled.
use Rattle.std.specs.Prelude.{ℕ, Bool, false, List, [], ◌∷◌, ◌++◌, Option, Some, None, codes, bytes_eq}
use Rattle.std.specs.Prelude.{drop, if◌then◌else◌}
use Rattle.std.specs.List.{list_any}
use Rattle.std.specs.Borrow.{Bor}
use Rattle.sd_line.specs.Form.{name_in, pieces_of, words_in}
use Rattle.sd_line.specs.declared.line.Value.{Value}
use Rattle.sd_line.specs.declared.line.Value.TheVariants.{Text, Words}

-- words in which each `{name}` stands for the next of the values
pub record PartOf : Type 0 where
  pub form : List ℕ
  pub values : List Value

pub record LineOf : Type 0 where
  pub kind : List ℕ
  pub parts : List PartOf

-- the parts after a first one, if there is one
abbrev pub parts_from : Option PartOf → List PartOf → List PartOf
parts_from None rest = rest
parts_from (Some first) rest = first ∷ rest

abbrev pub part_of : List ℕ → List Value → PartOf
part_of form values = record { form = form; values = values }

-- words with one value, a word of ours
abbrev pub word_part : List ℕ → List ℕ → PartOf
word_part form word = part_of form (Text word ∷ [])

-- a kind, and the words of a first part
abbrev pub Form : Type 0
Form = List ℕ × List ℕ

-- the form that a constant has
abbrev pub form : record { now : List ℕ } × record { now : List ℕ } → Form
form row = (row.0.now, row.1.now)

-- the form that a parameter has
abbrev pub form_of : Bor (List ℕ) × Bor (List ℕ) → Form
form_of row = (row.0.now, row.1.now)

abbrev pub line_of : Form → List Value → LineOf
line_of form values = record { kind = form.0; parts = part_of form.1 values ∷ [] }

abbrev pub line_with : List ℕ → List PartOf → LineOf
line_with kind parts = record { kind = kind; parts = parts }

-- a text of no kind
abbrev pub text_line : List ℕ → LineOf
text_line text = line_of ([], codes "{text}") (Text text ∷ [])

abbrev pub with_head : PartOf → LineOf → LineOf
with_head head l = record { kind = l.kind; parts = head ∷ l.parts }

abbrev pub with_tail : PartOf → LineOf → LineOf
with_tail tail l = record { kind = l.kind; parts = l.parts ++ tail ∷ [] }

-- the line is of this kind
abbrev pub is_of : List ℕ → LineOf → Bool
is_of kind l = bytes_eq l.kind kind

-- a value is words of which one is this
abbrev pub value_says : List ℕ → Value → Bool
value_says word (Words words) = list_any (bytes_eq word) words
value_says word value = false

abbrev pub part_says : List ℕ → PartOf → Bool
part_says word p = list_any (value_says word) p.values

-- one of the line's words is this
abbrev pub says : List ℕ → LineOf → Bool
says word l = list_any (part_says word) l.parts

-- ---- its values by their names

-- a value, the name in whose place it stands, and the words that follow
pub record FieldOf : Type 0 where
  pub name : List ℕ
  pub value : Value
  pub words : List ℕ

abbrev pub field_of : List ℕ → Value → FieldOf
field_of piece value = record { name = name_in piece; value = value; words = words_in piece }

-- the values in turn, each in the place of the next name
abbrev pub fields_from : List (List ℕ) → List Value → List FieldOf
fields_from pieces [] = []
fields_from [] (value ∷ values) = []
fields_from (piece ∷ pieces) (value ∷ values) = field_of piece value ∷ fields_from pieces values

abbrev pub fields_of : PartOf → List FieldOf
fields_of p = fields_from (drop 1 (pieces_of p.form)) p.values

-- the value of this name, of several the first
abbrev pub named_among : List ℕ → List FieldOf → Option Value
named_among name [] = None
named_among name (f ∷ fs) = if bytes_eq f.name name then Some f.value else named_among name fs

abbrev pub or_else : Option Value → Option Value → Option Value
or_else (Some value) other = Some value
or_else None other = other

abbrev pub named_in : List ℕ → List PartOf → Option Value
named_in name [] = None
named_in name (p ∷ ps) = or_else (named_among name (fields_of p)) (named_in name ps)

abbrev pub value_named : List ℕ → LineOf → Option Value
value_named name l = named_in name l.parts
