-- What is printed of a line: its text, and its object of JSON.
use Rattle.std.specs.Prelude.{ℕ, nat_eq, Option, Some, None, ◌==◌, if◌then◌else◌}
use Rattle.std.specs.Prelude.{List, [], ◌∷◌, ◌++◌, bytes_eq, codes, drop, length, map}
use Rattle.std.specs.Fmt.{decimal}
use Rattle.std.specs.List.{flat_map, starts_with}
use Rattle.sd_sid.specs.Sid.{SidValue}
use Rattle.sd_text.specs.Canon.{canon_in, entry_canon_in, full_canon}
use Rattle.sd_line.specs.Form.{pieces_of}
use Rattle.sd_line.specs.Json.{json_string, named, strings, then_named}
use Rattle.sd_line.specs.Line.{FieldOf, LineOf, PartOf, fields_of}
use Rattle.sd_line.specs.Spelling.{right_names_of, spelled}
use Rattle.sd_line.specs.declared.line.SidMark.{SidMark}
use Rattle.sd_line.specs.declared.line.SidMark.TheVariants.{Plain, Deny, Restrict}
use Rattle.sd_line.specs.declared.line.Value.{Value}
use Rattle.sd_line.specs.declared.line.Value.TheVariants.{Mask, Number, Sid, Entry, Descriptor, Text, Sids, Words}
use Rattle.sd_line.specs.declared.print.Output.{Output}
use Rattle.sd_line.specs.declared.print.Output.TheVariants as outputs
use Rattle.sd_line.specs.declared.print.Style.{Style}
use Rattle.sd_line.specs.declared.print.Tag.{Tag}
use Rattle.sd_line.specs.declared.print.Tag.TheVariants as tags
use Rattle.sd_line.specs.declared.spelling.Spelling.{Spelling}

-- the text, and the end of the line
abbrev pub line : List ℕ → List ℕ
line text = text ++ 10 ∷ []

-- ---- values

abbrev pub mark_text : SidMark → List ℕ
mark_text Plain = []
mark_text Deny = codes "=deny"
mark_text Restrict = codes "=restrict"

-- a SID in full with what it is in a token, as S-1-5-32-546=deny
abbrev pub marked_text : SidValue × SidMark → List ℕ
marked_text one = full_canon one.0 ++ mark_text one.1

-- texts, each after a space
abbrev pub spaced : List (List ℕ) → List ℕ
spaced texts = flat_map (λ (text : List ℕ). codes " " ++ text) texts

-- a value in a text
abbrev pub value_text : Spelling → Value → List ℕ
value_text spelling (Mask mask) = spelled spelling mask
value_text spelling (Number n) = decimal n
value_text spelling (Sid s) = full_canon s
value_text spelling (Entry e) = entry_canon_in (right_names_of spelling) e
value_text spelling (Descriptor d) = canon_in (right_names_of spelling) d
value_text spelling (Text text) = text
value_text spelling (Sids sids) = spaced (map marked_text sids)
value_text spelling (Words words) = spaced words

-- strings as an array, which isn't there where there are none
abbrev pub list_member : List ℕ → List (List ℕ) → List ℕ
list_member name [] = []
list_member name (text ∷ texts) = then_named name (codes "[" ++ strings (text ∷ texts) ++ codes "]")

-- a value with its name in an object: a number is one of JSON, several texts are an array, and all else is a string
abbrev pub member : Spelling → List ℕ → Value → List ℕ
member spelling name (Number n) = then_named name (decimal n)
member spelling name (Sids sids) = list_member name (map marked_text sids)
member spelling name (Words words) = list_member name words
member spelling name value = then_named name (json_string (value_text spelling value))

-- ---- the values of a part

-- a value in the place of its name
abbrev pub field_text : Spelling → FieldOf → List ℕ
field_text spelling f = value_text spelling f.value ++ f.words

abbrev pub field_member : Spelling → FieldOf → List ℕ
field_member spelling f = member spelling f.name f.value

-- the words before the first name
abbrev pub first_words : List (List ℕ) → List ℕ
first_words [] = []
first_words (words ∷ pieces) = words

abbrev pub part_text : Spelling → PartOf → List ℕ
part_text spelling p = first_words (pieces_of p.form) ++ flat_map (field_text spelling) (fields_of p)

abbrev pub part_members : Spelling → PartOf → List ℕ
part_members spelling p = flat_map (field_member spelling) (fields_of p)

-- ---- verdicts in colour

-- what a terminal writes in this colour from here on (ECMA-48, 8.3.117): green what is granted, red what is denied
abbrev pub colour_of : List ℕ → Option (List ℕ)
colour_of kind =
    if bytes_eq kind (codes "granted") then Some (27 ∷ codes "[32m")
    else if bytes_eq kind (codes "denied") then Some (27 ∷ codes "[31m")
    else None

-- words, where they begin with the kind of a line that has a colour: in it, and what follows as before
abbrev pub coloured_words : List ℕ → List ℕ → List ℕ
coloured_words kind words =
    elim (colour_of kind) [
      | None ↦ words
      | Some colour ↦ if starts_with nat_eq words kind
          then colour ++ kind ++ (27 ∷ codes "[0m") ++ drop (length kind) words
          else words
    ]

abbrev pub coloured_part : Spelling → List ℕ → PartOf → List ℕ
coloured_part spelling kind p =
    coloured_words kind (first_words (pieces_of p.form)) ++ flat_map (field_text spelling) (fields_of p)

-- ---- lines

abbrev pub line_text : Spelling → LineOf → List ℕ
line_text spelling l = flat_map (part_text spelling) l.parts

abbrev pub coloured_text : Spelling → LineOf → List ℕ
coloured_text spelling l = flat_map (coloured_part spelling l.kind) l.parts

-- the members of an object: the kind, and the values by their names; or of no kind the text alone
abbrev pub line_members : Spelling → LineOf → List ℕ
line_members spelling l =
    if length l.kind == 0 then named (codes "text") (json_string (line_text spelling l))
    else named (codes "answer") (codes "\"" ++ l.kind ++ codes "\"") ++ flat_map (part_members spelling) l.parts

-- ---- answers

-- a line as a text, with its end
abbrev pub whole_line : Spelling → LineOf → List ℕ
whole_line spelling l = line (line_text spelling l)

-- lines as texts
abbrev pub lines_text : Spelling → List LineOf → List ℕ
lines_text spelling lines = flat_map (whole_line spelling) lines

-- what each line of an answer begins with: the name that it has in an object, the byte that ends it in a text, and the
-- tag itself
abbrev pub TagOf : Type 0
TagOf = Option (List ℕ × ℕ × List ℕ)

abbrev pub tag_of : Tag → TagOf
tag_of tags.None = None
tag_of (tags.Key key) = Some (codes "key", 9, key.now)
tag_of (tags.Id id) = Some (codes "id", 32, id.now)

abbrev pub head_text : TagOf → List ℕ
head_text None = []
head_text (Some tag) = tag.2 ++ tag.1 ∷ []

-- in an object it is the first member
abbrev pub tag_members : TagOf → List ℕ
tag_members None = []
tag_members (Some tag) = named tag.0 (json_string tag.2) ++ codes ","

abbrev pub object : Spelling → TagOf → LineOf → List ℕ
object spelling tag l = codes "{" ++ tag_members tag ++ line_members spelling l ++ codes "}"

-- a line in an output, without its end
abbrev pub shown : Output → Spelling → TagOf → LineOf → List ℕ
shown outputs.Text spelling tag l = head_text tag ++ line_text spelling l
shown outputs.Coloured spelling tag l = head_text tag ++ coloured_text spelling l
shown outputs.Json spelling tag l = object spelling tag l

abbrev pub printed_line : Style → TagOf → LineOf → List ℕ
printed_line style tag l = line (shown style.output style.spelling tag l)

-- an answer as it is printed
abbrev pub printed : Style → TagOf → List LineOf → List ℕ
printed style tag lines = flat_map (printed_line style tag) lines
