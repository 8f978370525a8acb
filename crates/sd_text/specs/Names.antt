-- The tables of the code as tables of grammars.
use Rattle.std.specs.Prelude.{ℕ, List, [], ◌∷◌, map}
use Rattle.sd_sid.specs.Sid.{SidValue}
use Rattle.sd_text.specs.declared.alias.WellKnown.{WellKnown}
use Rattle.sd_text.specs.declared.alias.WellKnown.TheVariants.{One, Builtin, AllPackages, Drivers}
use Rattle.sd_text.specs.Grammar.{Name}
use Rattle.std.specs.Borrow.{Bor}

-- a row of a table: a name and its meaning
abbrev pub Row : Type 0 → Type 0
Row T = Bor (List ℕ) × T

-- a row as a name of a grammar
abbrev pub row : {T : Type 0} → Row T → Name T
row r = record { letters = r.0.now; stands_for = r.1 }

-- the rows of a table
abbrev pub rows : {T : Type 0} → List (Row T) → List (Name T)
rows rs = map row rs

-- the table with f applied to each meaning
abbrev pub renamed : {A B : Type 0} → (A → B) → List (Name A) → List (Name B)
renamed f names = map (λ name. record { letters = name.letters; stands_for = f name.stands_for }) names

-- the SID of an alias
abbrev pub well_known : WellKnown → SidValue
well_known (One authority sub) = record { authority = authority; subs = sub ∷ [] }
well_known (Builtin account) = record { authority = 5; subs = 32 ∷ account ∷ [] }
well_known AllPackages = record { authority = 15; subs = 2 ∷ 1 ∷ [] }
well_known Drivers = record { authority = 5; subs = 84 ∷ 0 ∷ 0 ∷ 0 ∷ 0 ∷ 0 ∷ [] }
