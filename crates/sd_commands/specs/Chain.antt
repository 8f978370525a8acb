-- The values of `--type`: the chain of object types that a question is about ([MS-DTYP] 2.5.3.2, ObjectTypeList).
use Rattle.std.specs.Prelude.{◌≡◌, ◌⊎◌, ℕ, List, [], ◌∷◌, ◌++◌, length, take, Some, None}
use Rattle.sd_whole.specs.declared.types.Guid.{Guid}
use Rattle.sd_whole_parse.specs.Guid.{guid_in}
use Rattle.sd_commands.specs.declared.chain.Chain.{Chain}

abbrev pub types_of : Chain → List Guid
types_of chain = take chain.count chain.guids

-- the text is this object type
abbrev pub IsType : List ℕ → Guid → Type 0
IsType text guid = guid_in text ≡ Some guid

-- after these object types the text is none, or one too many: there are at most five
abbrev pub IsUnfit : List Guid → List ℕ → Type 0
IsUnfit types text = (guid_in text ≡ None) ⊎ (length types ≡ 5)

-- it is the first such text of these, before which are object types
abbrev pub IsFirstUnfit : List Guid → List (List ℕ) → List ℕ → Type 0
IsFirstUnfit types [] part = ⊥
IsFirstUnfit types (text ∷ texts) part =
    (IsUnfit types text × (part ≡ text))
    ⊎ ((guid : Guid) × IsType text guid × IsFirstUnfit (types ++ guid ∷ []) texts part)
