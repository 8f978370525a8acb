-- Domains ([MS-DTYP] 2.4.2.4): the SIDs S-1-5-21-a-b-c, and those of their accounts and groups.
use Rattle.std.specs.Prelude.{ℕ, [], ◌∷◌, ◌++◌}
use Rattle.sd_sid.specs.Sid.{SidValue}
use Rattle.sd_text.specs.declared.domain.Domain.{Domain}

-- the SID of a domain
abbrev pub domain_sid : Domain → SidValue
domain_sid domain = record { authority = 5; subs = 21 ∷ domain.first ∷ domain.second ∷ domain.third ∷ [] }

-- the SID of an account or a group of the domain, by its relative identifier
abbrev pub account_sid : Domain → ℕ → SidValue
account_sid domain relative = record { authority = 5; subs = (domain_sid domain).subs ++ relative ∷ [] }
