-- What holds of the names of masks.
use Rattle.std.specs.Prelude.{◌≡◌, ℕ, ◌^◌, ◌<◌, Bool, true, not, ◌&&◌, bytes_eq, List, [], ◌∷◌, ◌++◌, map}
use Rattle.std.specs.List.{list_any}
use Rattle.sd_line.specs.Mask.{IsMaskIn}
use Rattle.sd_line.specs.Names.{long_names, rights, short_names}
use Rattle.sd_line.specs.Spelling.{spelled}
use Rattle.sd_line.specs.declared.spelling.Spelling.{Spelling}

-- no text is there twice
abbrev pub are_distinct : List (List ℕ) → Bool
are_distinct [] = true
are_distinct (text ∷ texts) = not (list_any (bytes_eq text) texts) && are_distinct texts

-- no two masks have one name
abbrev pub NamesAreDistinct : Type 0
NamesAreDistinct = are_distinct (map (λ named. named.0.letters) (long_names ++ short_names ++ rights)) ≡ true

-- a printed mask parses as that mask
abbrev pub MasksComeBack : Type 0
MasksComeBack = (spelling : Spelling) (mask : ℕ) → mask < 2 ^ 32 → IsMaskIn spelling (spelled spelling mask) mask
