-- What one line adds to the rows.
use Rattle.std.specs.Prelude.{◌≡◌, ◌⊎◌, ◌++◌, ℕ, List, [], ◌∷◌}
use Rattle.sd_accounts.specs.Fault.{IsNoRow}
use Rattle.sd_accounts.specs.Row.{AccountRow, IsRow, SaysNothing}
use Rattle.sd_accounts.specs.declared.fault.AccountsFault.{AccountsFault}

-- the line says nothing, or it is a row, which comes after those before it
abbrev pub SaysMore : List ℕ → List AccountRow → List AccountRow → Type 0
SaysMore line old new = (SaysNothing line × (new ≡ old))
    ⊎ ((row : AccountRow) × IsRow line row × (new ≡ old ++ row ∷ []))

-- the line of this number is neither a row nor says nothing
pub record IsFault (line : List ℕ) (number place : ℕ) (kind : AccountsFault) : Type 0 where
  pub place_is : place ≡ number
  pub something : SaysNothing line → ⊥
  pub no_row : IsNoRow line kind
