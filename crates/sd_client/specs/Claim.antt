-- Claims of who asks, as conditions write them ([MS-DTYP] 2.5.1.1): `@User.Project="VP"`.
use Rattle.std.specs.Prelude.{ℕ, Bool, true, false, ◌==◌, List, [], ◌∷◌, ◌++◌, map, Option, Some, None}
use Rattle.std.specs.Prelude.{codes, if◌then◌else◌}
use Rattle.std.specs.List.{after_first, before_first, list_any}
use Rattle.sd_sid.specs.SidBytes.{bytes_of_sid}
use Rattle.sd_text.specs.declared.alias.Aliases.{Aliases}
use Rattle.sd_claim.specs.Claim.{ClaimValue, claim_value}
use Rattle.sd_data.specs.Outcome.{◌>>=◌}
use Rattle.sd_claim.specs.Reading.{claim_of}
use Rattle.sd_claim.specs.Table.{type_of}
use Rattle.sd_claim.specs.declared.value.Value.{Value as InClaim}
use Rattle.sd_claim.specs.declared.value.Value.TheVariants as claims
use Rattle.sd_condition.specs.declared.attribute.Attribute.{Attribute}
use Rattle.sd_condition.specs.declared.attribute.Scope.{Scope}
use Rattle.sd_condition.specs.declared.attribute.Scope.TheVariants as scopes
use Rattle.sd_condition.specs.declared.operator.Operator.TheVariants as operators
use Rattle.sd_condition.specs.declared.token.Token.{Token}
use Rattle.sd_condition.specs.declared.token.Token.TheVariants as tokens
use Rattle.sd_condition.specs.declared.value.Value.{Value}
use Rattle.sd_condition.specs.declared.value.Value.TheVariants as values
use Rattle.sd_condition_parse.specs.Condition.{condition_found}
use Rattle.sd_client.specs.Whole.{all_of}
use Rattle.sd_client.specs.declared.word.Holder.{Holder}
use Rattle.sd_client.specs.declared.word.Holder.TheVariants.{Local, User, Device}

-- ---- values (2.4.10.1)

-- a literal as a value of a claim: a SID in its binary form
abbrev pub in_claim : Value → InClaim
in_claim (values.Integer integer) = claims.Integer integer.value
in_claim (values.Text text) = claims.Text text
in_claim (values.Octets octets) = claims.Octets octets
in_claim (values.Sid sid) = claims.Sid (bytes_of_sid sid)

-- the literals of a token: one, or a list of them
abbrev pub literals : Token → Option (List Value)
literals (tokens.Value value) = Some (value ∷ [])
literals (tokens.List list) = Some list
literals (tokens.Attribute attribute) = None
literals (tokens.Operator operator) = None

-- the claim of a name and values, of which there is at least one, all of the first one's type; without flags
abbrev pub claim_with : List ℕ → List InClaim → Option ClaimValue
claim_with name [] = None
claim_with name (value ∷ others) = claim_of (claim_value name 0 (type_of value) (value ∷ others))

-- ---- claims in conditions

abbrev pub is_equal : Token → Bool
is_equal (tokens.Operator operators.Equal) = true
is_equal _ = false

abbrev pub attribute_in : Token → Option Attribute
attribute_in (tokens.Attribute attribute) = Some attribute
attribute_in _ = None

-- whose claim an attribute of the scope is; one of the resource is not of who asks
abbrev pub holder_of : Scope → Option Holder
holder_of scopes.Local = Some Local
holder_of scopes.User = Some User
holder_of scopes.Device = Some Device
holder_of scopes.Resource = None

-- the claim that a condition compares with what it says, if the condition is no more than that, and whose
abbrev pub claim_in : List Token → Option (Holder × ClaimValue)
claim_in (left ∷ right ∷ operator ∷ []) =
    if is_equal operator then (attribute_in left >>= λ attribute.
    (holder_of attribute.scope >>= λ holder.
    (literals right >>= λ list.
    (claim_with attribute.name (map in_claim list) >>= λ claim.
    Some (holder, claim)))))
    else None
claim_in _ = None

-- ---- claims as words

abbrev pub is_equals : ℕ → Bool
is_equals c = c == 0x3d

-- the condition that compares the two
abbrev pub as_condition : List ℕ → List ℕ → List ℕ
as_condition name literal = codes "(" ++ name ++ codes "==" ++ literal ++ codes ")"

-- what is before the first `=` of a text, and what is after it
abbrev pub halves : List ℕ → Option (List ℕ × List ℕ)
halves text =
    if list_any is_equals text then Some (before_first is_equals text, after_first is_equals text) else None

-- the claim that a text says: what is before its first `=` is compared with what is after it
abbrev pub claim_said : Aliases → List ℕ → Option (Holder × ClaimValue)
claim_said known text =
    halves text >>= λ parts.
    (all_of (condition_found known (as_condition parts.0 parts.1)) >>= claim_in)
