-- The claim at the front of a text ([MS-DTYP] 2.5.1.1, attribute-data), or the first fault.
use Rattle.std.specs.Prelude.{◌^◌, ◌-◌, Option, Some, None, Err, codes, if◌then◌else◌}
use Rattle.sd_claim.specs.Claim.{ClaimValue, claim_value}
use Rattle.sd_claim.specs.Reading.{claim_of}
use Rattle.sd_text.specs.Grammar.{begins}
use Rattle.sd_text.specs.declared.alias.Aliases.{Aliases}
use Rattle.sd_text.specs.declared.fault.TextFault.TheVariants.{AclTooLarge, Syntax}
use Rattle.sd_claim_text.specs.Name.{name_found}
use Rattle.sd_claim_text.specs.Number.{unsigned_found}
use Rattle.sd_claim_text.specs.Parser.{Reads, ◌>>=◌, gives, letters_found}
use Rattle.sd_claim_text.specs.Value.{values_found}
use Rattle.sd_claim_text.specs.ValueType.{type_found}

-- the end of a claim; there is none only if its data would have more than 65,535 bytes
abbrev pub end_found : Option ClaimValue → Reads ClaimValue
end_found None text = if begins text (codes ")") then Err (AclTooLarge, text) else Err (Syntax, text)
end_found (Some c) text = (letters_found (codes ")") >>= λ u. gives c) text

unfoldable pub claim_found : Aliases → Reads ClaimValue
claim_found known = do
  u ← letters_found (codes "(")
  name ← name_found
  v ← letters_found (codes ",")
  value_type ← type_found
  w ← letters_found (codes ",")
  flags ← unsigned_found (2 ^ 32 - 1)
  values ← values_found value_type known
  end_found (claim_of (claim_value name flags value_type values))
