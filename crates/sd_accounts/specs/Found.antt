-- Who is named so far.
use Rattle.std.specs.Prelude.{◌≡◌, ◌⊎◌, ℕ, List, Option, Some, None}
use Rattle.sd_sid.specs.Sid.{SidValue}
use Rattle.sd_accounts.specs.Names.{IsNamedIn, NamesNone, NamesOne}
use Rattle.sd_accounts.specs.Row.{AccountRow}

-- the text names nobody so far, or this one
abbrev pub IsFound : List AccountRow → List ℕ → Option SidValue → Type 0
IsFound rows text None = NamesNone rows text
IsFound rows text (Some sid) = NamesOne rows text sid

-- by one more row the text names this one, and nobody else before; or the row gives nobody such a name
abbrev pub FindsNext : AccountRow → List ℕ → Option SidValue → Option SidValue → Type 0
FindsNext row text old new =
    ((sid : SidValue) × IsNamedIn row text sid × ((old ≡ None) ⊎ (old ≡ Some sid)) × (new ≡ Some sid))
    ⊎ (((sid : SidValue) → IsNamedIn row text sid → ⊥) × (new ≡ old))

-- by one more row the text names another one too
abbrev pub FindsTwo : AccountRow → List ℕ → Option SidValue → Type 0
FindsTwo row text old =
    (sid : SidValue) × (other : SidValue) × IsNamedIn row text sid × (old ≡ Some other) × (other ≡ sid → ⊥)
