-- Control bits, and other bits that have words ([MS-DTYP] 2.4.6).
use Rattle.std.specs.Prelude.{ℕ, List, [], ◌∷◌, codes, map, if◌then◌else◌}
use Rattle.std.specs.Borrow.{Bor}
use Rattle.std.specs.List.{flat_map}
use Rattle.sd_wire.specs.Reading.{is_set}
use Rattle.sd_whole_text.specs.declared.no_text.AclKind.{AclKind}
use Rattle.sd_whole_text.specs.declared.no_text.AclKind.TheVariants as lists
use Rattle.sd_show.specs.declared.control.Field.{Field}
use Rattle.sd_show.specs.declared.control.Field.TheVariants.{Owner, Group, ResourceManager, Dacl, Sacl}

-- a bit, and its word
abbrev pub BitWord : Type 0
BitWord = ℕ × List ℕ

-- what lines call a part of a descriptor
abbrev pub name_of : Field → List ℕ
name_of Owner = codes "owner"
name_of Group = codes "group"
name_of ResourceManager = codes "resource manager"
name_of Dacl = codes "dacl"
name_of Sacl = codes "sacl"

-- a list as a part
abbrev pub field_of : AclKind → Field
field_of lists.Dacl = Dacl
field_of lists.Sacl = Sacl

-- the control bits that speak of it: OD, GD, RM; PD, DC, DI, DD, DT, SS; PS, SC, SI, SD. The others, SR, SP and DP,
-- follow from what is there
abbrev pub bits_of : Field → List BitWord
bits_of Owner = (0x0001, codes "defaulted") ∷ []
bits_of Group = (0x0002, codes "defaulted") ∷ []
bits_of ResourceManager = (0x4000, codes "valid") ∷ []
bits_of Dacl =
    (0x1000, codes "protected") ∷ (0x0100, codes "auto-inherit-required") ∷ (0x0400, codes "auto-inherited")
    ∷ (0x0008, codes "defaulted") ∷ (0x0080, codes "trusted") ∷ (0x0040, codes "server-security") ∷ []
bits_of Sacl =
    (0x2000, codes "protected") ∷ (0x0200, codes "auto-inherit-required") ∷ (0x0800, codes "auto-inherited")
    ∷ (0x0020, codes "defaulted") ∷ []

-- the words of the bits that are set
unfoldable pub words_set : List BitWord → ℕ → List (List ℕ)
words_set named bits = flat_map (λ (one : BitWord). if is_set one.0 bits then one.1 ∷ [] else []) named

-- a table of the code
abbrev pub rows : List (ℕ × Bor (List ℕ)) → List BitWord
rows named = map (λ (one : ℕ × Bor (List ℕ)). (one.0, one.1.now)) named
