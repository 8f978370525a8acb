-- Worked claims: the text of each in an entry, its value, and the data of the entry, as Samba 4.22 writes it.
use Rattle.std.specs.Prelude.{◌≡◌, ℕ, pos, negsuc, List, [], ◌∷◌, codes}
use Rattle.sd_claim.specs.Claim.{ClaimValue, claim_value}
use Rattle.sd_claim.specs.Writing.{claim_data}
use Rattle.sd_claim.specs.declared.value.Value.TheVariants as values
use Rattle.sd_claim.specs.declared.value_type.ValueType.TheVariants as types

-- ("Project",TS,0x0,"Windows","SQL")
abbrev pub texts_claim : ClaimValue
texts_claim = claim_value (codes "Project") 0 types.Text
    (values.Text (codes "Windows") ∷ values.Text (codes "SQL") ∷ [])

abbrev pub texts_data : List ℕ
texts_data =
    0x18 ∷ 0 ∷ 0 ∷ 0 ∷ 3 ∷ 0 ∷ 0 ∷ 0 ∷ 0 ∷ 0 ∷ 0 ∷ 0 ∷ 2 ∷ 0 ∷ 0 ∷ 0
    ∷ 0x28 ∷ 0 ∷ 0 ∷ 0 ∷ 0x38 ∷ 0 ∷ 0 ∷ 0 ∷ 0x50 ∷ 0 ∷ 0x72 ∷ 0 ∷ 0x6f ∷ 0 ∷ 0x6a ∷ 0
    ∷ 0x65 ∷ 0 ∷ 0x63 ∷ 0 ∷ 0x74 ∷ 0 ∷ 0 ∷ 0 ∷ 0x57 ∷ 0 ∷ 0x69 ∷ 0 ∷ 0x6e ∷ 0 ∷ 0x64 ∷ 0
    ∷ 0x6f ∷ 0 ∷ 0x77 ∷ 0 ∷ 0x73 ∷ 0 ∷ 0 ∷ 0 ∷ 0x53 ∷ 0 ∷ 0x51 ∷ 0 ∷ 0x4c ∷ 0 ∷ 0 ∷ 0 ∷ []

-- ("ab",TI,0x0,1,-2)
abbrev pub integers_claim : ClaimValue
integers_claim = claim_value (codes "ab") 0 types.Integer (values.Integer (pos 1) ∷ values.Integer (negsuc 1) ∷ [])

abbrev pub integers_data : List ℕ
integers_data =
    0x18 ∷ 0 ∷ 0 ∷ 0 ∷ 1 ∷ 0 ∷ 0 ∷ 0 ∷ 0 ∷ 0 ∷ 0 ∷ 0 ∷ 2 ∷ 0 ∷ 0 ∷ 0
    ∷ 0x1e ∷ 0 ∷ 0 ∷ 0 ∷ 0x26 ∷ 0 ∷ 0 ∷ 0 ∷ 0x61 ∷ 0 ∷ 0x62 ∷ 0 ∷ 0 ∷ 0 ∷ 1 ∷ 0
    ∷ 0 ∷ 0 ∷ 0 ∷ 0 ∷ 0 ∷ 0 ∷ 0xfe ∷ 0xff ∷ 0xff ∷ 0xff ∷ 0xff ∷ 0xff ∷ 0xff ∷ 0xff ∷ 0 ∷ 0 ∷ []

-- ("ab",TX,0x2,0a0b0c)
abbrev pub octets_claim : ClaimValue
octets_claim = claim_value (codes "ab") 2 types.Octets (values.Octets (0x0a ∷ 0x0b ∷ 0x0c ∷ []) ∷ [])

abbrev pub octets_data : List ℕ
octets_data =
    0x14 ∷ 0 ∷ 0 ∷ 0 ∷ 0x10 ∷ 0 ∷ 0 ∷ 0 ∷ 2 ∷ 0 ∷ 0 ∷ 0 ∷ 1 ∷ 0 ∷ 0 ∷ 0
    ∷ 0x1a ∷ 0 ∷ 0 ∷ 0 ∷ 0x61 ∷ 0 ∷ 0x62 ∷ 0 ∷ 0 ∷ 0 ∷ 3 ∷ 0 ∷ 0 ∷ 0 ∷ 0x0a ∷ 0x0b
    ∷ 0x0c ∷ 0 ∷ 0 ∷ 0 ∷ []

-- ("a",TD,0x0,BA)
abbrev pub sids_claim : ClaimValue
sids_claim = claim_value (codes "a") 0 types.Sid (values.Sid (codes "S-1-5-32-544") ∷ [])

abbrev pub sids_data : List ℕ
sids_data =
    0x14 ∷ 0 ∷ 0 ∷ 0 ∷ 5 ∷ 0 ∷ 0 ∷ 0 ∷ 0 ∷ 0 ∷ 0 ∷ 0 ∷ 1 ∷ 0 ∷ 0 ∷ 0
    ∷ 0x18 ∷ 0 ∷ 0 ∷ 0 ∷ 0x61 ∷ 0 ∷ 0 ∷ 0 ∷ 0x0c ∷ 0 ∷ 0 ∷ 0 ∷ 0x53 ∷ 0x2d ∷ 0x31 ∷ 0x2d
    ∷ 0x35 ∷ 0x2d ∷ 0x33 ∷ 0x32 ∷ 0x2d ∷ 0x35 ∷ 0x34 ∷ 0x34 ∷ []

-- each of these claims is written as its data
pub record WorkedClaimsAreWritten : Type 0 where
  pub texts : claim_data texts_claim ≡ texts_data
  pub integers : claim_data integers_claim ≡ integers_data
  pub octets : claim_data octets_claim ≡ octets_data
  pub sids : claim_data sids_claim ≡ sids_data
