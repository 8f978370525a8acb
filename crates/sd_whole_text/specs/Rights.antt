-- The rights of an entry ([MS-DTYP] 2.5.1.1, ace-rights).
use Rattle.std.specs.Prelude.{ℕ, ◌==◌, ◌||◌, nat_lt, List, [], ◌∷◌, ◌++◌, codes, if◌then◌else◌}
use Rattle.std.specs.List.{flat_map}
use Rattle.sd_text.specs.Canon.{flag_canon, hex, rights_canon_in}
use Rattle.sd_text.specs.Grammar.{Name}
use Rattle.sd_text.specs.Rights.{bits}
use Rattle.sd_text.specs.declared.right_names.RightNames.{RightNames}
use Rattle.sd_whole.specs.declared.kind.WholeKind.{WholeKind}
use Rattle.sd_whole.specs.declared.kind.WholeKind.TheVariants.{MandatoryLabel, ResourceAttribute, ScopedPolicy}

-- what a mandatory label denies to lower levels: to write up, to read up, to execute up (2.4.4.13)
abbrev pub label_names : List (Name ℕ)
label_names = bits (codes "NW") 1 ∷ bits (codes "NR") 2 ∷ bits (codes "NX") 4 ∷ []

-- the mask of a label by these names, if they have all its bits and it has one, or else in hexadecimal
unfoldable pub label_text : ℕ → List ℕ
label_text mask =
    if mask == 0 || nat_lt 7 mask then codes "0x" ++ hex mask
    else flat_map (flag_canon mask) label_names

-- a mask that has to be 0 (2.4.4.15, 2.4.4.16): nothing if it is
abbrev pub reserved_text : RightNames → ℕ → List ℕ
reserved_text names mask = if mask == 0 then [] else rights_canon_in names mask

-- the mask of an entry of this kind
abbrev pub rights_text : RightNames → WholeKind → ℕ → List ℕ
rights_text names MandatoryLabel mask = label_text mask
rights_text names ResourceAttribute mask = reserved_text names mask
rights_text names ScopedPolicy mask = reserved_text names mask
rights_text names kind mask = rights_canon_in names mask
