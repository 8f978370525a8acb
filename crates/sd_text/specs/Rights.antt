-- The rights field of an entry ([MS-DTYP] 2.5.1.1, ace-rights).
use Rattle.std.specs.Prelude.{ℕ, ◌^◌, List, [], ◌∷◌, ◌++◌, codes, bit_or}
use Rattle.sd_text.specs.Grammar.{Grammar, Name, choose, number, run, begins, begins_digit, whole}

-- a name for these bits
abbrev pub bits : List ℕ → ℕ → Name ℕ
bits letters mask = record { letters = letters; stands_for = mask }

-- the names of rights, the greatest mask first
unfoldable pub names_from_greatest : List (Name ℕ)
names_from_greatest =
    bits (codes "GR") 0x80000000 ∷ bits (codes "GW") 0x40000000 ∷ bits (codes "GX") 0x20000000
    ∷ bits (codes "GA") 0x10000000
    ∷ bits (codes "FA") 0x1F01FF ∷ bits (codes "FW") 0x120116 ∷ bits (codes "FX") 0x1200A0 ∷ bits (codes "FR") 0x120089
    ∷ bits (codes "KA") 0xF003F ∷ bits (codes "WO") 0x80000 ∷ bits (codes "WD") 0x40000 ∷ bits (codes "KR") 0x20019
    ∷ bits (codes "KW") 0x20006 ∷ bits (codes "RC") 0x20000 ∷ bits (codes "SD") 0x10000 ∷ bits (codes "CR") 0x100
    ∷ bits (codes "LO") 0x80 ∷ bits (codes "DT") 0x40 ∷ bits (codes "WP") 0x20 ∷ bits (codes "RP") 0x10
    ∷ bits (codes "SW") 0x8 ∷ bits (codes "LC") 0x4 ∷ bits (codes "DC") 0x2 ∷ bits (codes "CC") 0x1 ∷ []

-- all of them: KX has the mask of KR
abbrev pub right_names : List (Name ℕ)
right_names = names_from_greatest ++ bits (codes "KX") 0x20019 ∷ []

-- a run of names: the union of their bits
unfoldable pub bits_of : List (Name ℕ) → Grammar ℕ
bits_of names = run names bit_or 0

-- hexadecimal after `0x`, octal after `0`, else decimal
unfoldable pub mask_number : Grammar ℕ
mask_number = choose (λ text. begins text (codes "0X")) (number 2 16 (2 ^ 32))
    (choose (λ text. begins text (codes "0")) (number 0 8 (2 ^ 32)) (number 0 10 (2 ^ 32)))

-- a number if a digit is there, else names
unfoldable pub rights : Grammar ℕ
rights = choose (begins_digit 10) mask_number (bits_of right_names)

-- the text of a mask
abbrev pub mask_text : Grammar ℕ
mask_text = whole rights
