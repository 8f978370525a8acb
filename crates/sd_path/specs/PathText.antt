-- Paths as texts: `/` is the root, else each name follows a `/`.
use Rattle.std.specs.Prelude.{◌≡◌, ◌<◌, ◌≤◌, ◌++◌, ℕ, zero, suc, false, not, ◌==◌, ◌&&◌, nat_lt, if◌then◌else◌, List}
use Rattle.std.specs.Prelude.{[], ◌∷◌, length, Option, Some, None, Result, Ok, Err, IsOkAnd}
use Rattle.std.specs.List.{list_all, slice_split}
use Rattle.std.specs.Option.{option_or}
use Rattle.sd_path.specs.Names.{Names, is_root, is_name_byte}
use Rattle.sd_path.specs.declared.error.PathError.{PathError}
use Rattle.sd_path.specs.declared.error.PathError.TheVariants.{Syntax, NameTooLong, TooManyNames, Memory}

-- the texts between one `/` and the next
abbrev pub between_slashes : List ℕ → Names
between_slashes = slice_split (λ b. b == 0x2F)

-- why these bytes are no name, if they aren't one
abbrev pub name_fault : List ℕ → Option PathError
name_fault name =
    if not (nat_lt 0 (length name) && list_all is_name_byte name) then Some Syntax
    else if nat_lt 255 (length name) then Some NameTooLong
    else None

-- the first fault of the names from the left, of which there may be so many
abbrev pub fault_of : ℕ → Names → Option PathError
fault_of most [] = None
fault_of zero (name ∷ names) = Some TooManyNames
fault_of (suc most) (name ∷ names) = option_or (name_fault name) (fault_of most names)

abbrev pub unless : Option PathError → Names → Result Names PathError
unless None names = Ok names
unless (Some fault) names = Err fault

-- the path of a text, or the first reason why it has none
unfoldable pub path_of : List ℕ → Result Names PathError
path_of [] = Err Syntax
path_of (b ∷ bs) =
    if not (b == 0x2F) then Err Syntax
    else if length bs == 0 then Ok []
    else unless (fault_of 128 (between_slashes bs)) (between_slashes bs)

-- each name after a `/`
abbrev pub slashed : Names → List ℕ
slashed [] = []
slashed (name ∷ names) = 0x2F ∷ (name ++ slashed names)

-- the text of a path
abbrev pub text_of : Names → List ℕ
text_of [] = 0x2F ∷ []
text_of (name ∷ names) = slashed (name ∷ names)

-- the result is the text's path or its fault; out of memory comes only for a path that has a name
abbrev pub IsReadAs : Result Names PathError → Result Names PathError → Type 0
IsReadAs said (Ok path) = said ≡ Ok path
IsReadAs said (Err Memory) = IsOkAnd said (λ path. is_root path ≡ false)
IsReadAs said (Err Syntax) = said ≡ Err Syntax
IsReadAs said (Err NameTooLong) = said ≡ Err NameTooLong
IsReadAs said (Err TooManyNames) = said ≡ Err TooManyNames

-- each error's number
abbrev pub path_error_number : PathError → ℕ
path_error_number Syntax = 1
path_error_number NameTooLong = 2
path_error_number TooManyNames = 3
path_error_number Memory = 4

-- the result is the path with one more name, if it has fewer than 128
abbrev pub IsChildOf : Names → List ℕ → Result Names PathError → Type 0
IsChildOf above name (Ok path) = (length above < 128) × (path ≡ above ++ name ∷ [])
IsChildOf above name (Err Memory) = length above < 128
IsChildOf above name (Err TooManyNames) = 128 ≤ length above
IsChildOf above name (Err fault) = ⊥
