-- Integrity levels ([MS-DTYP] 2.4.2.4, S-1-16-LEVEL), by name, number or SID.
use Rattle.std.specs.Prelude.{ℕ, ◌^◌, ◌==◌, List, [], ◌∷◌, Option, Some, None, codes, if◌then◌else◌}
use Rattle.sd_sid.specs.Sid.{SidValue}
use Rattle.sd_text.specs.Grammar.{Grammar, Name, begins, choose, name_for, number, one_of}

-- the names of levels, of either case; the longer of two comes first
abbrev pub level_names : List (Name ℕ)
level_names =
    name_for (codes "untrusted") 0x0000
    ∷ name_for (codes "low") 0x1000
    ∷ name_for (codes "mediumplus") 0x2100
    ∷ name_for (codes "medium") 0x2000
    ∷ name_for (codes "high") 0x3000
    ∷ name_for (codes "system") 0x4000
    ∷ []

-- a number below 2^32, hexadecimal after `0x`, else decimal
abbrev pub level_number : Grammar ℕ
level_number = choose (λ text. begins text (codes "0X")) (number 2 16 (2 ^ 32)) (number 0 10 (2 ^ 32))

abbrev pub level_text : Grammar ℕ
level_text = one_of level_names level_number

-- the one sub-authority
abbrev pub only_sub : List ℕ → Option ℕ
only_sub [] = None
only_sub (level ∷ []) = Some level
only_sub (level ∷ other ∷ others) = None

-- the level of an integrity SID
abbrev pub label_level : SidValue → Option ℕ
label_level sid = if sid.authority == 16 then only_sub sid.subs else None
