-- Whom a text means where accounts are known: a SID, or the name of an account.
use Rattle.std.specs.Prelude.{◌≡◌, ◌⊎◌, ℕ, List, Result, Ok, Err}
use Rattle.sd_sid.specs.Sid.{SidValue}
use Rattle.sd_text.specs.Grammar.{Spells}
use Rattle.sd_text.specs.Sid.{sid_text_in}
use Rattle.sd_text.specs.declared.alias.Aliases.{Aliases}
use Rattle.sd_accounts.specs.Names.{IsNamed}
use Rattle.sd_accounts.specs.Row.{AccountRow}
use Rattle.sd_accounts.specs.declared.names.NameError.{NameError}
use Rattle.sd_accounts.specs.declared.names.NameError.TheVariants.{Unknown, Ambiguous}

-- the text spells this SID, or an account of it has the name
abbrev pub MayMean : List AccountRow → Aliases → List ℕ → SidValue → Type 0
MayMean rows known text sid = Spells (sid_text_in known) text sid ⊎ IsNamed rows text sid

-- it means this SID: it may, and it may mean no other
abbrev pub Means : List AccountRow → Aliases → List ℕ → SidValue → Type 0
Means rows known text sid =
    MayMean rows known text sid × ((other : SidValue) → MayMean rows known text other → other ≡ sid)

-- it means nobody; or it may mean two
abbrev pub MeansNone : List AccountRow → Aliases → List ℕ → NameError → Type 0
MeansNone rows known text Unknown = (sid : SidValue) → MayMean rows known text sid → ⊥
MeansNone rows known text Ambiguous = (one : SidValue) × (two : SidValue) × MayMean rows known text one
    × MayMean rows known text two × (one ≡ two → ⊥)

-- whom it means, or why nobody
abbrev pub MeansWhom : List AccountRow → Aliases → List ℕ → Result SidValue NameError → Type 0
MeansWhom rows known text (Ok sid) = Means rows known text sid
MeansWhom rows known text (Err error) = MeansNone rows known text error

-- the SID that is spelled, beside what is named: nobody or the same; or there are two
abbrev pub IsBeside : SidValue → Result SidValue NameError → Result SidValue NameError → Type 0
IsBeside spelled (Ok named) (Ok sid) = (sid ≡ spelled) × (named ≡ spelled)
IsBeside spelled (Ok named) (Err Unknown) = ⊥
IsBeside spelled (Ok named) (Err Ambiguous) = named ≡ spelled → ⊥
IsBeside spelled (Err Unknown) one = one ≡ Ok spelled
IsBeside spelled (Err Ambiguous) one = one ≡ Err Ambiguous
