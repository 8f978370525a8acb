-- The laws of a condition's two forms, its tokens and its application data.
use Rattle.std.specs.Prelude.{◌≡◌, ℕ, ◌<◌, true, List, slice_index, Some, FitsSigned}
use Rattle.std.specs.Int.{w64}
use Rattle.std.specs.List.{AllByRecursion}
use Rattle.sd_sid.specs.Sid.{IsSid}
use Rattle.sd_data.specs.Writing.{AreOctets, AreUnits}
use Rattle.sd_condition.specs.Reading.{condition_read}
use Rattle.sd_condition.specs.Writing.{condition_data, is_condition}
use Rattle.sd_condition.specs.declared.token.Token.{Token}
use Rattle.sd_condition.specs.declared.token.Token.TheVariants as tokens
use Rattle.sd_condition.specs.declared.value.Value.{Value}
use Rattle.sd_condition.specs.declared.value.Value.TheVariants as values

-- what every value is: an integer of 64 bits, units of 16, octets, a SID
abbrev pub IsValue : Value → Type 0
IsValue (values.Integer integer) = FitsSigned w64 integer.value
IsValue (values.Text text) = AreUnits text
IsValue (values.Octets octets) = AreOctets octets
IsValue (values.Sid sid) = IsSid sid

-- what every token is
abbrev pub IsToken : Token → Type 0
IsToken (tokens.Value value) = IsValue value
IsToken (tokens.List list) = AllByRecursion IsValue list
IsToken (tokens.Attribute attribute) = AreUnits attribute.name
IsToken (tokens.Operator operator) = Unit {0}

abbrev pub AreTokens : List Token → Type 0
AreTokens ts = AllByRecursion IsToken ts

-- what is written is parsed again
abbrev pub ConditionsComeBack : Type 0
ConditionsComeBack = (ts : List Token) → AreTokens ts → is_condition ts ≡ true
    → condition_read (condition_data ts) ≡ Some ts

-- what is parsed is written again: each condition has one data
abbrev pub DataComesBack : Type 0
DataComesBack = (bytes : List ℕ) (ts : List Token) → ((i : ℕ) → slice_index bytes i < 256)
    → condition_read bytes ≡ Some ts → condition_data ts ≡ bytes

-- what is parsed are tokens, which are a condition
abbrev pub ParsedIsACondition : Type 0
ParsedIsACondition = (bytes : List ℕ) (ts : List Token) → ((i : ℕ) → slice_index bytes i < 256)
    → condition_read bytes ≡ Some ts → AreTokens ts × (is_condition ts ≡ true)
