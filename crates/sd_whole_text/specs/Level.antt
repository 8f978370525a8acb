-- The aliases of integrity levels, which are SIDs of mandatory labels ([MS-DTYP] 2.4.2.4; 2.5.1.1, sid-token).
use Rattle.std.specs.Prelude.{ℕ, ◌==◌, List, [], ◌∷◌, Option, Some, None, codes, if◌then◌else◌}
use Rattle.sd_sid.specs.Sid.{SidValue}
use Rattle.sd_text.specs.Canon.{sid_canon}
use Rattle.sd_text.specs.Grammar.{Name, name_for}
use Rattle.sd_whole.specs.declared.kind.WholeKind.{WholeKind}
use Rattle.sd_whole.specs.declared.kind.WholeKind.TheVariants.{MandatoryLabel}

-- the levels by their aliases: low, medium, medium plus, high, system
abbrev pub level_names : List (Name ℕ)
level_names =
    name_for (codes "LW") 4096 ∷ name_for (codes "ME") 8192 ∷ name_for (codes "MP") 8448
    ∷ name_for (codes "HI") 12288 ∷ name_for (codes "SI") 16384 ∷ []

-- the SID of a level
abbrev pub level_sid : ℕ → SidValue
level_sid level = record { authority = 16; subs = level ∷ [] }

-- the alias of a level
abbrev pub alias_in : List (Name ℕ) → ℕ → Option (List ℕ)
alias_in [] level = None
alias_in (name ∷ names) level = if name.stands_for == level then Some name.letters else alias_in names level

abbrev pub only_level : List ℕ → Option (List ℕ)
only_level [] = None
only_level (level ∷ []) = alias_in level_names level
only_level (level ∷ other ∷ others) = None

-- the alias of the level that a SID is
abbrev pub level_alias : SidValue → Option (List ℕ)
level_alias sid = if sid.authority == 16 then only_level sid.subs else None

abbrev pub or_canon : Option (List ℕ) → SidValue → List ℕ
or_canon (Some alias) sid = alias
or_canon None sid = sid_canon sid

-- the SID of an entry of this kind: a label's by the alias of its level, if it has one
abbrev pub trustee_text : WholeKind → SidValue → List ℕ
trustee_text MandatoryLabel sid = or_canon (level_alias sid) sid
trustee_text kind sid = sid_canon sid
