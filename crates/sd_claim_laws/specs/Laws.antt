-- The laws of claims' texts ([MS-DTYP] 2.5.1.1, attribute-data).
use Rattle.std.specs.Prelude.{◌≡◌, ℕ, ◌<◌, List, ◌++◌, slice_index, Some, Ok}
use Rattle.sd_claim.specs.Claim.{ClaimValue}
use Rattle.sd_claim.specs.Laws.{IsClaim}
use Rattle.sd_claim.specs.Reading.{claim_read}
use Rattle.sd_claim_text.specs.Found.{claim_found}
use Rattle.sd_claim_text.specs.Text.{claim_text}
use Rattle.sd_text.specs.declared.alias.Aliases.{Aliases}

-- the printed text of a claim is parsed as that claim, whichever aliases a text may have, and whatever follows
abbrev pub ClaimTextsComeBack : Type 0
ClaimTextsComeBack = (known : Aliases) (c : ClaimValue) (text rest : List ℕ) → IsClaim c → claim_text c ≡ Some text
    → claim_found known (text ++ rest) ≡ Ok (c, rest)

-- what is parsed of bytes is a claim
abbrev pub ParsedIsAClaim : Type 0
ParsedIsAClaim = (bytes : List ℕ) (c : ClaimValue) → ((i : ℕ) → slice_index bytes i < 256)
    → claim_read bytes ≡ Some c → IsClaim c
