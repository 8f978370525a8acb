-- The texts of a mask that is asked for: a rights field of SDDL, or words joined by `+`.
use Rattle.std.specs.Prelude.{◌≡◌, ◌⊎◌, ℕ, ◌+◌, ◌==◌, List, [], ◌∷◌, length, Option, Some, None, bit_or}
use Rattle.std.specs.List.{slice_split}
use Rattle.sd_text.specs.Fault.{StandsIn}
use Rattle.sd_text.specs.Grammar.{Grammar, HasFault, Spells, choose, refused}
use Rattle.sd_text.specs.Rights.{mask_text}
use Rattle.sd_text.specs.declared.fault.TextError.{TextError}
use Rattle.sd_text.specs.declared.fault.TextError.TheVariants.{Fault, Memory}
use Rattle.sd_text.specs.declared.fault.TextFault.TheVariants.{Syntax}
use Rattle.sd_line.specs.Names.{mask_named}
use Rattle.sd_line.specs.declared.spelling.Spelling.{Spelling}
use Rattle.sd_line.specs.declared.spelling.Spelling.TheVariants.{Number, Names}
use Rattle.sd_line.specs.declared.names.ObjectKind.{ObjectKind}

-- the texts that plus signs separate
abbrev pub between_pluses : List ℕ → List (List ℕ)
between_pluses text = slice_split (λ b. b == 43) text

-- a rights field that isn't empty
abbrev pub rights_word : Grammar ℕ
rights_word = choose (λ text. length text == 0) (refused Syntax) mask_text

-- the word is a name of the kind, in any case, or else a rights field
abbrev pub IsWordMask : Option ObjectKind → List ℕ → ℕ → Type 0
IsWordMask kind word mask =
    (mask_named kind word ≡ Some mask) ⊎ ((mask_named kind word ≡ None) × Spells rights_word word mask)

-- the error of the word that begins at this offset
abbrev pub IsWordErrorAt : Option ObjectKind → ℕ → List ℕ → TextError → Type 0
IsWordErrorAt kind start word (Fault fault place) =
    (within : ℕ) × (mask_named kind word ≡ None) × HasFault rights_word word fault within × (place ≡ start + within)
IsWordErrorAt kind start word Memory = ⊥

-- the words' bits, joined to these, are the mask
abbrev pub AreJoined : Option ObjectKind → ℕ → List (List ℕ) → ℕ → Type 0
AreJoined kind bits [] mask = mask ≡ bits
AreJoined kind bits (word ∷ words) mask =
    (of_word : ℕ) × IsWordMask kind word of_word × AreJoined kind (bit_or bits of_word) words mask

-- the first error of the words, of which the first begins at this offset
abbrev pub IsErrorFrom : Option ObjectKind → ℕ → List (List ℕ) → TextError → Type 0
IsErrorFrom kind start [] error = ⊥
IsErrorFrom kind start (word ∷ words) error =
    IsWordErrorAt kind start word error
    ⊎ (((of_word : ℕ) × IsWordMask kind word of_word) × IsErrorFrom kind (start + (length word + 1)) words error)

-- the text is this mask; an empty one is 0
abbrev pub IsMaskIn : Spelling → List ℕ → ℕ → Type 0
IsMaskIn Number text mask = Spells mask_text text mask
IsMaskIn (Names kind) [] mask = mask ≡ 0
IsMaskIn (Names kind) (c ∷ text) mask = AreJoined kind 0 (between_pluses (c ∷ text)) mask

-- the text has this error first, with its offset in bytes from 0
abbrev pub IsMaskErrorIn : Spelling → List ℕ → TextError → Type 0
IsMaskErrorIn Number text error = StandsIn mask_text text error
IsMaskErrorIn (Names kind) [] error = ⊥
IsMaskErrorIn (Names kind) (c ∷ text) error = IsErrorFrom kind 0 (between_pluses (c ∷ text)) error
