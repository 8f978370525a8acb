-- The names for whole masks in printed entries ([MS-DTYP] 2.5.1.1, ace-rights).
use Rattle.std.specs.Prelude.{ℕ, Bool, true, false, ◌&&◌, ◌==◌, if◌then◌else◌, List, [], ◌∷◌, Option, Some, None, codes}
use Rattle.std.specs.Borrow.{Bor}
use Rattle.sd_text.specs.Grammar.{Name}
use Rattle.sd_text.specs.Rights.{bits}
use Rattle.sd_text.specs.declared.right_names.RightNames.{RightNames}
use Rattle.sd_text.specs.declared.right_names.RightNames.TheVariants.{All, Files, Keys, Common}

-- a name for a mask, and the objects whose right it is
abbrev pub PrintedRight : Type 0
PrintedRight = Name ℕ × RightNames

-- of a file, of a registry key, and of every object
abbrev pub file : List ℕ → ℕ → PrintedRight
file letters mask = (bits letters mask, Files)

abbrev pub key : List ℕ → ℕ → PrintedRight
key letters mask = (bits letters mask, Keys)

abbrev pub any : List ℕ → ℕ → PrintedRight
any letters mask = (bits letters mask, Common)

unfoldable pub printed_rights : List PrintedRight
printed_rights =
    file (codes "FA") 0x1F01FF ∷ file (codes "FR") 0x120089 ∷ file (codes "FW") 0x120116 ∷ file (codes "FX") 0x1200A0
    ∷ key (codes "KA") 0xF003F ∷ key (codes "KR") 0x20019 ∷ key (codes "KW") 0x20006
    ∷ any (codes "GA") 0x10000000 ∷ any (codes "GR") 0x80000000 ∷ any (codes "GW") 0x40000000
    ∷ any (codes "GX") 0x20000000
    ∷ any (codes "SD") 0x10000 ∷ any (codes "RC") 0x20000 ∷ any (codes "WD") 0x40000 ∷ any (codes "WO") 0x80000 ∷ []

-- whether rights of these objects are named
abbrev pub has : RightNames → RightNames → Bool
has All objects = true
has names Common = true
has Files Files = true
has Keys Keys = true
has names objects = false

-- the name for exactly these bits
unfoldable pub name_in : RightNames → List PrintedRight → ℕ → Option (List ℕ)
name_in names [] mask = None
name_in names (right ∷ rights) mask =
    if has names right.1 && right.0.stands_for == mask then Some right.0.letters else name_in names rights mask

-- a row of the code's table
abbrev pub printed_right : Bor (List ℕ) × ℕ × RightNames → PrintedRight
printed_right row = (bits row.0.now row.1, row.2)
