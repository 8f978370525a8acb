-- The text of a claim ([MS-DTYP] 2.5.1.1, attribute-data). What no text is parsed as has none.
use Rattle.std.specs.Prelude.{ℕ, List, [], ◌∷◌, ◌++◌, Option, Some, codes}
use Rattle.std.specs.Fmt.{◌++?◌}
use Rattle.sd_claim.specs.Claim.{ClaimValue}
use Rattle.sd_claim.specs.declared.value.Value.{Value}
use Rattle.sd_text.specs.Canon.{hex}
use Rattle.sd_claim_text.specs.Name.{name_text}
use Rattle.sd_claim_text.specs.Value.{value_text}
use Rattle.sd_claim_text.specs.ValueType.{type_word}

-- the type and the flags, each after a comma
abbrev pub kind_text : ClaimValue → List ℕ
kind_text c = codes "," ++ type_word c.value_type ++ codes ",0x" ++ hex c.flags

-- values, each after a comma
abbrev pub values_text : List Value → Option (List ℕ)
values_text [] = Some []
values_text (value ∷ list) = Some (codes ",") ++? value_text value ++? values_text list

unfoldable pub claim_text : ClaimValue → Option (List ℕ)
claim_text c =
    Some (codes "(") ++? name_text c.name ++? Some (kind_text c) ++? values_text c.values ++? Some (codes ")")
