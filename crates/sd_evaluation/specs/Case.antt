-- How texts compare, with case and without ([MS-DTYP] 2.5.3.1.5): unit by unit, as numbers.
use Rattle.std.specs.Prelude.{ℕ, ◌^◌, Bool, true, false, ◌&&◌, nat_le, nat_lt, List, [], ◌∷◌, map, if◌then◌else◌}
use Rattle.std.specs.Char.Unicode.ToUppercase.{to_uppercase}
use Rattle.std.specs.Cmp.Lexicographic.{slice_cmp}
use Rattle.std.specs.Ordering.{is_eq, nat_cmp}
use Rattle.std.specs.declared.cmp.Ordering.{Ordering}

-- what the unit becomes, if that is one unit
abbrev pub one_unit : ℕ → List ℕ → ℕ
one_unit unit [] = unit
one_unit unit (upper ∷ []) = if nat_lt upper (2 ^ 16) then upper else unit
one_unit unit (upper ∷ other ∷ others) = unit

-- half of a surrogate pair
abbrev pub is_surrogate : ℕ → Bool
is_surrogate unit = nat_le 0xd800 unit && nat_lt unit 0xe000

-- a UTF-16 unit in upper case, by the data of Unicode; half of a surrogate pair stays as it is
unfoldable pub upper_unit : ℕ → ℕ
upper_unit unit = if is_surrogate unit then unit else one_unit unit (to_uppercase unit)

abbrev pub folded : Bool → ℕ → ℕ
folded true unit = unit
folded false unit = upper_unit unit

-- the order of two texts, with case or without
abbrev pub text_order : Bool → List ℕ → List ℕ → Ordering
text_order with_case a b = slice_cmp nat_cmp (map (folded with_case) a) (map (folded with_case) b)

abbrev pub same_text : Bool → List ℕ → List ℕ → Bool
same_text with_case a b = is_eq (text_order with_case a b)
