-- The values of operands: of a literal ([MS-DTYP] 2.4.4.17.5), and of a claim (2.4.10.1).
use Rattle.std.specs.Prelude.{ℕ, ℤ, pos, Bool, false, ◌&&◌, ◌==◌, nat_lt, List, [], ◌∷◌, map, length, Option}
use Rattle.std.specs.Prelude.{Some, None, Result, Ok, Err, codes, take, ◌-◌, slice_index, if◌then◌else◌}
use Rattle.std.specs.Option.{option_map}
use Rattle.sd_sid.specs.Sid.{SidValue}
use Rattle.sd_sid.specs.SidBytes.{sid_reading}
use Rattle.sd_sid.specs.declared.sid.SidError.{SidError}
use Rattle.sd_text.specs.Alias.{in_domain}
use Rattle.sd_text.specs.Finding.{Found, find}
use Rattle.sd_text.specs.Grammar.{begins}
use Rattle.sd_text.specs.Sid.{sid}
use Rattle.sd_acl.specs.declared.ace.AceKind.{AceKind}
use Rattle.sd_claim.specs.Claim.{ClaimValue}
use Rattle.sd_claim.specs.declared.value.Value.{Value as InClaim}
use Rattle.sd_claim.specs.declared.value.Value.TheVariants as claims
use Rattle.sd_condition.specs.declared.token.Token.{Token}
use Rattle.sd_condition.specs.declared.token.Token.TheVariants as tokens
use Rattle.sd_condition.specs.declared.value.Value.{Value}
use Rattle.sd_condition.specs.declared.value.Value.TheVariants as values
use Rattle.sd_evaluation.specs.Facts.{FactsValue, attribute_claim, is_case_sensitive}

-- a value, as comparisons see it
pub data Datum : Type 0 where
  Number : ℤ → Datum
  Text : List ℕ → Datum
  Octets : List ℕ → Datum
  Sid : SidValue → Datum
  -- the octets of a claim of SIDs that are none
  Unreadable : Datum

-- ---- SIDs of claims

-- all of the text is a SID
abbrev pub whole_text : Found SidValue → Option SidValue
whole_text (Ok x) = if length x.1 == 0 then Some x.0 else None
whole_text (Err e) = None

-- all of the bytes are a SID
abbrev pub whole_bytes : ℕ → Result (SidValue × ℕ) SidError → Option SidValue
whole_bytes n (Ok x) = if x.1 == n then Some x.0 else None
whole_bytes n (Err e) = None

-- without a zero that ends them
abbrev pub unterminated : List ℕ → List ℕ
unterminated octets =
    if nat_lt 0 (length octets) && slice_index octets (length octets - 1) == 0 then take (length octets - 1) octets
    else octets

-- text in full (2.4.2.1), which a zero may end, or else bytes (2.4.2.2)
unfoldable pub sid_of : List ℕ → Option SidValue
sid_of octets =
    if begins octets (codes "S-1-") then whole_text (find (sid (in_domain None)) (unterminated octets))
    else whole_bytes (length octets) (sid_reading octets)

abbrev pub sid_datum : Option SidValue → Datum
sid_datum (Some s) = Sid s
sid_datum None = Unreadable

-- ---- values

abbrev pub literal_datum : Value → Datum
literal_datum (values.Integer integer) = Number integer.value
literal_datum (values.Text text) = Text text
literal_datum (values.Octets octets) = Octets octets
literal_datum (values.Sid s) = Sid s

-- a boolean is 1 or 0
abbrev pub boolean_number : ℕ → ℕ
boolean_number n = if n == 0 then 0 else 1

abbrev pub claim_datum : InClaim → Datum
claim_datum (claims.Integer number) = Number number
claim_datum (claims.Unsigned number) = Number (pos number)
claim_datum (claims.Text text) = Text text
claim_datum (claims.Sid octets) = sid_datum (sid_of octets)
claim_datum (claims.Boolean number) = Number (pos (boolean_number number))
claim_datum (claims.Octets octets) = Octets octets

-- ---- operands

-- one value, or a list of values
pub data Values : Type 0 where
  One : Datum → Values
  Many : List Datum → Values

abbrev pub listed : Values → List Datum
listed (One v) = v ∷ []
listed (Many vs) = vs

-- a claim of one value is that value, and one of several their list
abbrev pub claim_values : List InClaim → Values
claim_values [] = Many []
claim_values (v ∷ []) = One (claim_datum v)
claim_values (v ∷ w ∷ others) = Many (map claim_datum (v ∷ w ∷ others))

pub record OperandValue : Type 0 where
  pub values : Values
  pub with_case : Bool

abbrev pub claim_operand : ClaimValue → OperandValue
claim_operand c = record { values = claim_values c.values; with_case = is_case_sensitive c }

abbrev pub literal_operand : Values → OperandValue
literal_operand vs = record { values = vs; with_case = false }

-- what the operand is: a literal as it stands, and an attribute its claim, or nothing where it is missing
abbrev pub operand_of : FactsValue → AceKind → Token → Option OperandValue
operand_of f kind (tokens.Value v) = Some (literal_operand (One (literal_datum v)))
operand_of f kind (tokens.List vs) = Some (literal_operand (Many (map literal_datum vs)))
operand_of f kind (tokens.Attribute a) = option_map claim_operand (attribute_claim f kind a)
operand_of f kind (tokens.Operator operator) = None
