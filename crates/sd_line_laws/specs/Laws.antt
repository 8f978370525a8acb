-- What holds of the objects of lines.
use Rattle.std.specs.Prelude.{◌≡◌, ◌≢◌, ℕ, ◌^◌, ◌<◌, ⊤, All, List, [], ◌∷◌, flat_map, length, map}
use Rattle.sd_line.specs.Line.{FieldOf, LineOf, fields_of}
use Rattle.sd_line.specs.Printed.{TagOf, line_text, marked_text, object, value_text}
use Rattle.sd_line.specs.declared.line.Value.{Value}
use Rattle.sd_line.specs.declared.line.Value.TheVariants as values
use Rattle.sd_line.specs.declared.spelling.Spelling.{Spelling}

-- what an object has of a value: a number, a string, or an array of strings
pub data Said : Type 0 where
  Number : ℕ → Said
  String : List ℕ → Said
  Strings : List (List ℕ) → Said

-- an array without strings has no member
abbrev pub said_strings : List ℕ → List (List ℕ) → List (List ℕ × Said)
said_strings name [] = []
said_strings name (text ∷ texts) = (name, Strings (text ∷ texts)) ∷ []

abbrev pub said_value : Spelling → List ℕ → Value → List (List ℕ × Said)
said_value spelling name (values.Number n) = (name, Number n) ∷ []
said_value spelling name (values.Sids sids) = said_strings name (map marked_text sids)
said_value spelling name (values.Words words) = said_strings name words
said_value spelling name value = (name, String (value_text spelling value)) ∷ []

abbrev pub said_field : Spelling → FieldOf → List (List ℕ × Said)
said_field spelling f = said_value spelling f.name f.value

abbrev pub line_fields : LineOf → List FieldOf
line_fields l = flat_map fields_of l.parts

-- what an object has of a line's values, each with its name
abbrev pub said : Spelling → LineOf → List (List ℕ × Said)
said spelling l = flat_map (said_field spelling) (line_fields l)

-- no byte is a quote
abbrev pub IsPlain : List ℕ → Type 0
IsPlain name = All (λ b. b ≢ 34) name

-- the line has a kind, and neither that nor a name has a quote
pub record HasPlainNames (l : LineOf) : Type 0 where
  pub some : 0 < length l.kind
  pub kind : IsPlain l.kind
  pub names : All (λ f. IsPlain f.name) (line_fields l)

abbrev pub Has64Bits : Value → Type 0
Has64Bits (values.Number n) = n < 2 ^ 64
Has64Bits value = ⊤

-- each number of the line has 64 bits, as a `Value::Number` always has (`decimal` writes 64 digits at most)
abbrev pub HasU64s : LineOf → Type 0
HasU64s l = All (λ f. Has64Bits f.value) (line_fields l)

-- lines with a kind and the same object have the same kind, and the same values by the same names in the same order
abbrev pub ObjectsDetermineValues : Type 0
ObjectsDetermineValues = (spelling : Spelling) (tag : TagOf) (l m : LineOf)
    → HasPlainNames l → HasPlainNames m → HasU64s l → HasU64s m
    → object spelling tag l ≡ object spelling tag m → (l.kind ≡ m.kind) × (said spelling l ≡ said spelling m)

-- lines without a kind and with the same object have the same text
abbrev pub ObjectsDetermineTexts : Type 0
ObjectsDetermineTexts = (spelling : Spelling) (tag : TagOf) (l m : LineOf) → l.kind ≡ [] → m.kind ≡ []
    → object spelling tag l ≡ object spelling tag m → line_text spelling l ≡ line_text spelling m

-- a line without a kind never has the object of one with a kind
abbrev pub ObjectsDetermineWhetherOfAKind : Type 0
ObjectsDetermineWhetherOfAKind = (spelling : Spelling) (tag : TagOf) (l m : LineOf) → l.kind ≡ [] → 0 < length m.kind
    → object spelling tag l ≢ object spelling tag m
