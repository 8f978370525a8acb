-- A mask by names of a table ([MS-DTYP] 2.4.3), as FR+WD.
use Rattle.std.specs.Prelude.{ℕ, Bool, not, ◌&&◌, ◌==◌, if◌then◌else◌, List, [], ◌∷◌, ◌++◌, length, bit_and, bit_or}
use Rattle.std.specs.Prelude.{codes}
use Rattle.sd_sid.specs.Mask.{holds, mask_of}
use Rattle.sd_text.specs.Canon.{hex}
use Rattle.sd_text.specs.Grammar.{Name}

-- a name is due if all its bits are the mask's, and earlier names don't have all of them
abbrev pub is_due : ℕ → ℕ → ℕ → Bool
is_due mask named rights = bit_and mask rights == rights && not (bit_and named rights == rights)

-- what is before a further word
abbrev pub plus_after : List ℕ → List ℕ
plus_after text = if length text == 0 then [] else codes "+"

abbrev pub with_word : List ℕ → List ℕ → List ℕ
with_word text word = (text ++ plus_after text) ++ word

-- after the names, the bits that none of them has, as a number
abbrev pub with_rest : List ℕ → ℕ → List ℕ
with_rest text rest = if rest == 0 && not (length text == 0) then text else with_word text (codes "0x" ++ hex rest)

-- from these names on, if earlier ones have these bits and this text
unfoldable pub named_from : List (Name ℕ) → ℕ → ℕ → List ℕ → List ℕ
named_from [] mask named text = with_rest text (mask_of (λ b. holds mask b && not (holds named b)) 32)
named_from (name ∷ names) mask named text =
    if is_due mask named name.stands_for then named_from names mask (bit_or named name.stands_for)
    (with_word text name.letters)
    else named_from names mask named text
