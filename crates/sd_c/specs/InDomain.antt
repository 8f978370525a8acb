-- The answers of the calls that parse the aliases of a domain's accounts and groups ([MS-DTYP] 2.4.2.4).
use Rattle.std.specs.Prelude.{◌≡◌, ◌⊎◌, ℕ, List, length, Option, Some, None, Ok, Err}
use Rattle.sd_sid.specs.Sid.{SidValue}
use Rattle.sd_sid.specs.SidBytes.{sid_reading, bytes_of_sid}
use Rattle.sd_acl.specs.Descriptor.{DescriptorValue}
use Rattle.sd_text.specs.Alias.{in_domain}
use Rattle.sd_text.specs.Domain.{domain_sid}
use Rattle.sd_text.specs.Grammar.{Grammar, Spells}
use Rattle.sd_text.specs.Sddl.{sddl_in}
use Rattle.sd_text.specs.Sid.{sid_text_in}
use Rattle.sd_text.specs.declared.alias.Aliases.{Aliases}
use Rattle.sd_text.specs.declared.domain.Domain.{Domain}
use Rattle.sd_wire.specs.Writing.{wire_of}
use Rattle.sd_c.specs.declared.refusal.Refusal.{Refusal}
use Rattle.sd_c.specs.declared.refusal.Refusal.TheVariants.{Sid, NoDomain}
use Rattle.sd_c.specs.Written.{RefusesText}

-- the domain's SID is at the front of the bytes
abbrev pub IsDomainOf : List ℕ → Domain → Type 0
IsDomainOf bytes domain = (n : ℕ) × (sid_reading bytes ≡ Ok (domain_sid domain, n))

-- the domain of an argument that may be left out: without bytes there is none
abbrev pub IsDomainArgument : List ℕ → Option Domain → Type 0
IsDomainArgument bytes None = length bytes ≡ 0
IsDomainArgument bytes (Some domain) = IsDomainOf bytes domain

-- a SID that is no domain's is there
abbrev pub IsOfNoDomain : List ℕ → Type 0
IsOfNoDomain bytes =
    (sid : SidValue) × (n : ℕ) × (sid_reading bytes ≡ Ok (sid, n)) × ((domain : Domain) → ¬ (domain_sid domain ≡ sid))

-- bytes are refused: they start with no SID, or with none of a domain
abbrev pub RefusesDomain : List ℕ → Refusal → Type 0
RefusesDomain bytes (Sid fault) = sid_reading bytes ≡ Err fault
RefusesDomain bytes NoDomain = IsOfNoDomain bytes
RefusesDomain bytes _ = ⊥

-- the domain's bytes are refused, or the text that is parsed in it
abbrev pub RefusesIn : {A : Type 0} → (Aliases → Grammar A) → List ℕ → List ℕ → Refusal → Type 0
RefusesIn grammar bytes text why =
    RefusesDomain bytes why
    ⊎ ((domain : Domain) × IsDomainOf bytes domain × RefusesText (grammar (in_domain (Some domain))) text why)

-- the self-relative form of the descriptor that the text spells in the domain
abbrev pub IsFormOfIn : List ℕ → List ℕ → List ℕ → Type 0
IsFormOfIn bytes text form =
    (domain : Domain) × (d : DescriptorValue) × IsDomainOf bytes domain
    × Spells (sddl_in (in_domain (Some domain))) text d
    × (form ≡ wire_of d)

-- the bytes of the SID that the text spells in it
abbrev pub IsSidOfIn : List ℕ → List ℕ → List ℕ → Type 0
IsSidOfIn bytes text form =
    (domain : Domain) × (s : SidValue) × IsDomainOf bytes domain × Spells (sid_text_in (in_domain (Some domain))) text s
    × (form ≡ bytes_of_sid s)
