-- Integrity levels ([MS-DTYP] 2.5.3.3, MandatoryIntegrityCheck): the label of an object, and which rights it takes from
-- a token of a lower level.
use Rattle.std.specs.Prelude.{ℕ, Bool, true, false, not, ◌&&◌, ◌||◌, ◌==◌, nat_lt, List, [], ◌∷◌, Option, Some, None}
use Rattle.std.specs.Prelude.{if◌then◌else◌}
use Rattle.sd_sid.specs.Mapping.{MappingValue, mapped}
use Rattle.sd_sid.specs.Mask.{holds, mask_of}
use Rattle.sd_sid.specs.Sid.{SidValue}
use Rattle.sd_acl.specs.declared.descriptor.DaclOf.TheVariants.{Absent, Null, List as Entries}
use Rattle.sd_whole.specs.Entry.{for_children_alone}
use Rattle.sd_whole.specs.declared.ace.WholeAce.{WholeAce}
use Rattle.sd_whole.specs.declared.ace.WholeAce.TheVariants.{Plain, Typed, Opaque}
use Rattle.sd_whole.specs.declared.kind.WholeKind.{WholeKind}
use Rattle.sd_whole.specs.declared.kind.WholeKind.TheVariants.{MandatoryLabel}
use Rattle.sd_whole.specs.Reading.{WholeAcl}
use Rattle.sd_label.specs.declared.label.Label.{Label}

-- the one sub-authority; a SID with others is above every level (fail closed)
abbrev pub only_level : List ℕ → ℕ
only_level (level ∷ []) = level
only_level _ = 0xFFFFFFFF

-- the level of an integrity SID, S-1-16-LEVEL (2.4.2.4); any other SID is above every level (fail closed)
abbrev pub level_of : SidValue → ℕ
level_of sid = if sid.authority == 16 then only_level sid.subs else 0xFFFFFFFF

abbrev pub is_label : WholeKind → Bool
is_label MandatoryLabel = true
is_label _ = false

-- an effective label: its level, and its mask, which says what it takes (2.4.4.13)
abbrev pub label_of : WholeAce → Option Label
label_of (Plain e) = None
label_of (Typed e) =
    if is_label e.kind && not (for_children_alone e.flags.0)
    then Some (record { level = level_of e.sid; policy = e.mask }) else None
label_of (Opaque e) = None

-- Medium, no write up: 8192 and 1
abbrev pub no_label : Label
no_label = record { level = 8192; policy = 1 }

abbrev pub label_or : Option Label → Label → Label
label_or None other = other
label_or (Some label) other = label

-- the first effective label of a list
abbrev pub first_label : List WholeAce → Label
first_label [] = no_label
first_label (e ∷ es) = label_or (label_of e) (first_label es)

-- the object's label: that of its SACL
abbrev pub label_of_object : WholeAcl → Label
label_of_object Absent = no_label
label_of_object Null = no_label
label_of_object (Entries list) = first_label list.entries

-- a bit is left where one of GENERIC_WRITE, GENERIC_READ and GENERIC_EXECUTE is mapped to it and not barred: no write
-- up (place 0) bars the first, no read up (place 1) the second, no execute up (place 2) the third
abbrev pub is_left : MappingValue → ℕ → ℕ → Bool
is_left g policy b =
    (not (holds policy 0) && holds (mapped g 0x40000000) b)
    || (not (holds policy 1) && holds (mapped g 0x80000000) b)
    || (not (holds policy 2) && holds (mapped g 0x20000000) b)

-- what a label takes from a token of this level: if the level is below the object's, every bit that isn't left (fail
-- closed)
abbrev pub taken_by : Label → ℕ → MappingValue → ℕ
taken_by label level g =
    if nat_lt level label.level then mask_of (λ b. not (is_left g label.policy b)) 32
    else 0
