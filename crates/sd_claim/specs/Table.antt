-- The number of each type of values, and how values of each type are laid out ([MS-DTYP] 2.4.10.1).
use Rattle.std.specs.Prelude.{ℕ, ◌==◌, Bool, List, [], ◌∷◌, Option}
use Rattle.std.specs.List.{find}
use Rattle.sd_claim.specs.declared.value.Value.{Value}
use Rattle.sd_claim.specs.declared.value.Value.TheVariants as values
use Rattle.sd_claim.specs.declared.value_type.Layout.{Layout}
use Rattle.sd_claim.specs.declared.value_type.Layout.TheVariants.{Number, TerminatedText, OctetString}
use Rattle.sd_claim.specs.declared.value_type.ValueType.{ValueType}
use Rattle.sd_claim.specs.declared.value_type.ValueType.TheVariants.{Integer, Unsigned, Text, Sid, Boolean, Octets}

-- ValueType
abbrev pub type_number : ValueType → ℕ
type_number Integer = 0x0001
type_number Unsigned = 0x0002
type_number Text = 0x0003
type_number Sid = 0x0005
type_number Boolean = 0x0006
type_number Octets = 0x0010

abbrev pub value_types : List ValueType
value_types = Integer ∷ Unsigned ∷ Text ∷ Sid ∷ Boolean ∷ Octets ∷ []

-- the type whose number it is
abbrev pub type_read : ℕ → Option ValueType
type_read number = find (λ each. type_number each == number) value_types

abbrev pub same_type : ValueType → ValueType → Bool
same_type a b = type_number a == type_number b

abbrev pub type_of : Value → ValueType
type_of (values.Integer number) = Integer
type_of (values.Unsigned number) = Unsigned
type_of (values.Text text) = Text
type_of (values.Sid octets) = Sid
type_of (values.Boolean number) = Boolean
type_of (values.Octets octets) = Octets

-- a SID is in an octet string (2.4.10.2), and so are octets
abbrev pub layout_of : ValueType → Layout
layout_of Integer = Number
layout_of Unsigned = Number
layout_of Text = TerminatedText
layout_of Sid = OctetString
layout_of Boolean = Number
layout_of Octets = OctetString

-- the fewest bytes of a part: a number, the zero that ends a text, the length of an octet string
abbrev pub least_len : Layout → ℕ
least_len Number = 8
least_len TerminatedText = 2
least_len OctetString = 4
