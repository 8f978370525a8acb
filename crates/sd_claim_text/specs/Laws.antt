-- The laws of a claim's text.
use Rattle.std.specs.Prelude.{◌≡◌, ℕ, true, List, ◌++◌, Some, Ok}
use Rattle.sd_data.specs.Writing.{AreUnits}
use Rattle.sd_data.specs.Writing.{has_no_zero}
use Rattle.sd_claim_text.specs.Name.{name_found, name_text}

-- a name that is printed is parsed as the same name, whatever follows
abbrev pub NamesComeBack : Type 0
NamesComeBack = (name text rest : List ℕ) → AreUnits name → has_no_zero name ≡ true → name_text name ≡ Some text
    → name_found (text ++ rest) ≡ Ok (name, rest)
