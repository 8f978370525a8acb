-- The aliases of SIDs ([MS-DTYP] 2.5.1.1, sid-token).
use Rattle.std.specs.Prelude.{ℕ, Bool, true, false, List, [], ◌∷◌, ◌++◌, Option, Some, None, codes, if◌then◌else◌}
use Rattle.sd_sid.specs.Sid.{SidValue, same_sid}
use Rattle.sd_text.specs.Grammar.{Name, name_for}
use Rattle.sd_text.specs.declared.alias.Aliases.{Aliases}
use Rattle.sd_text.specs.declared.domain.Domain.{Domain}

-- a name for the SID of this authority and these sub-authorities
abbrev pub alias : List ℕ → ℕ → List ℕ → Name SidValue
alias letters authority subs = name_for letters (record { authority = authority; subs = subs })

-- a name for a SID of the built-in domain
abbrev pub builtin : List ℕ → ℕ → Name SidValue
builtin letters number = alias letters 5 (32 ∷ number ∷ [])

-- the aliases that need no domain
unfoldable pub aliases : List (Name SidValue)
aliases =
    alias (codes "WD") 1 (0 ∷ []) ∷ alias (codes "CO") 3 (0 ∷ []) ∷ alias (codes "CG") 3 (1 ∷ [])
    ∷ alias (codes "OW") 3 (4 ∷ [])
    ∷ alias (codes "NU") 5 (2 ∷ []) ∷ alias (codes "IU") 5 (4 ∷ []) ∷ alias (codes "SU") 5 (6 ∷ [])
    ∷ alias (codes "AN") 5 (7 ∷ [])
    ∷ alias (codes "ED") 5 (9 ∷ []) ∷ alias (codes "PS") 5 (10 ∷ []) ∷ alias (codes "AU") 5 (11 ∷ [])
    ∷ alias (codes "RC") 5 (12 ∷ [])
    ∷ alias (codes "SY") 5 (18 ∷ []) ∷ alias (codes "LS") 5 (19 ∷ []) ∷ alias (codes "NS") 5 (20 ∷ [])
    ∷ alias (codes "AC") 15 (2 ∷ 1 ∷ [])
    ∷ builtin (codes "BA") 544 ∷ builtin (codes "BU") 545 ∷ builtin (codes "BG") 546 ∷ builtin (codes "PU") 547
    ∷ builtin (codes "AO") 548 ∷ builtin (codes "SO") 549 ∷ builtin (codes "PO") 550 ∷ builtin (codes "BO") 551
    ∷ builtin (codes "RE") 552 ∷ builtin (codes "RU") 554 ∷ builtin (codes "RD") 555 ∷ builtin (codes "NO") 556
    ∷ builtin (codes "MU") 558 ∷ builtin (codes "LU") 559 ∷ builtin (codes "IS") 568 ∷ builtin (codes "CY") 569
    ∷ builtin (codes "ER") 573 ∷ builtin (codes "CD") 574 ∷ []

-- the aliases of newer versions of Windows, which a text may have or not
abbrev pub later_aliases : Bool → List (Name SidValue)
later_aliases false = []
later_aliases true =
    builtin (codes "RA") 575 ∷ builtin (codes "ES") 576 ∷ builtin (codes "MS") 577 ∷ builtin (codes "HA") 578
    ∷ builtin (codes "AA") 579 ∷ builtin (codes "RM") 580 ∷ alias (codes "UD") 5 (84 ∷ 0 ∷ 0 ∷ 0 ∷ 0 ∷ 0 ∷ []) ∷ []

-- the aliases of accounts and groups of a domain, by their relative identifiers
abbrev pub early_domain_aliases : List (Name ℕ)
early_domain_aliases =
    name_for (codes "DA") 512 ∷ name_for (codes "DU") 513 ∷ name_for (codes "DG") 514
    ∷ name_for (codes "DC") 515
    ∷ name_for (codes "DD") 516 ∷ name_for (codes "CA") 517 ∷ name_for (codes "RS") 553
    ∷ name_for (codes "EA") 519
    ∷ name_for (codes "SA") 518 ∷ name_for (codes "PA") 520 ∷ name_for (codes "LA") 500
    ∷ name_for (codes "LG") 501 ∷ []

-- the aliases of a domain's accounts and groups that a text may have: all, or all but those of newer versions
abbrev pub domain_aliases : Bool → List (Name ℕ)
domain_aliases false = early_domain_aliases
domain_aliases true = early_domain_aliases ++ name_for (codes "RO") 498 ∷ name_for (codes "CN") 522
    ∷ name_for (codes "AP") 525 ∷ name_for (codes "KA") 526 ∷ []

-- the aliases that a text may have where newer versions' aren't asked for
abbrev pub in_domain : Option Domain → Aliases
in_domain domain = record { domain = domain; later = false }

-- the letters of the table's name for the SID
unfoldable pub alias_in : List (Name SidValue) → SidValue → Option (List ℕ)
alias_in [] sid = None
alias_in (name ∷ names) sid =
    if same_sid name.stands_for sid then Some name.letters else alias_in names sid
