-- A claim as a plain value ([MS-DTYP] 2.4.10.1).
use Rattle.std.specs.Prelude.{ℕ, List}
use Rattle.sd_claim.specs.declared.value.Value.{Value}
use Rattle.sd_claim.specs.declared.value_type.ValueType.{ValueType}

-- a claim: its name in UTF-16 units, its flags, the type of its values, and these
pub record ClaimValue : Type 0 where
  pub name : List ℕ
  pub flags : ℕ
  pub value_type : ValueType
  pub values : List Value

abbrev pub claim_value : List ℕ → ℕ → ValueType → List Value → ClaimValue
claim_value name flags value_type values = record {
  name = name;
  flags = flags;
  value_type = value_type;
  values = values;
}
