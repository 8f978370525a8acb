-- The plain part of a text: of a plain descriptor all of it, of a whole one owner, group and DACL; and what it lacks.
use Rattle.std.specs.Prelude.{◌≡◌, ◌⊎◌, ℕ, ◌-◌, Bool, true, false, not, ◌&&◌, ◌==◌, IsTrue, MatchBool, List, []}
use Rattle.std.specs.Prelude.{length, Ok, Err, bit_and}
use Rattle.std.specs.List.{list_any}
use Rattle.sd_acl.specs.Ace.{all_named}
use Rattle.sd_acl.specs.Descriptor.{DescriptorValue}
use Rattle.sd_acl.specs.declared.descriptor.DaclOf.TheVariants.{List as Entries}
use Rattle.sd_text.specs.Grammar.{HasFault, Spells}
use Rattle.sd_text.specs.Sddl.{sddl_in}
use Rattle.sd_text.specs.declared.alias.Aliases.{Aliases}
use Rattle.sd_text.specs.declared.fault.TextError.{TextError}
use Rattle.sd_text.specs.declared.fault.TextError.TheVariants as texts
use Rattle.sd_text.specs.declared.fault.TextFault.{TextFault}
use Rattle.sd_whole.specs.Plain.{has_sacl, plain_part}
use Rattle.sd_whole.specs.Reading.{WholeAcl}
use Rattle.sd_whole.specs.declared.ace.WholeAce.{WholeAce}
use Rattle.sd_whole.specs.declared.ace.WholeAce.TheVariants.{Plain, Typed, Opaque}
use Rattle.sd_whole.specs.declared.descriptor.WholeDescriptor.{WholeDescriptor}
use Rattle.sd_whole.specs.declared.plain.OddEntry.{OddEntry}
use Rattle.sd_whole_parse.specs.Descriptor.{whole_found}
use Rattle.sd_whole_parse.specs.Finding.{has_opening}
use Rattle.sd_whole_parse.specs.declared.part.LeftOut.{LeftOut}
use Rattle.sd_whole_parse.specs.declared.part.PartError.{PartError}
use Rattle.sd_whole_parse.specs.declared.part.PartError.TheVariants.{Fault, Odd, Memory}

-- ---- what a plain part lacks

-- an entry has more than its plain form: a flag without a name among the seven, as CR, or bytes after its SID
abbrev pub is_trimmed : WholeAce → Bool
is_trimmed (Plain e) = not (bit_and e.flags.0 all_named == e.flags.0)
is_trimmed (Typed e) = true
is_trimmed (Opaque e) = true

-- an entry of the DACL has
abbrev pub are_trimmed : WholeAcl → Bool
are_trimmed (Entries list) = list_any is_trimmed list.entries
are_trimmed acl = false

-- what of a whole descriptor its plain part lacks
abbrev pub left_out_of : WholeDescriptor → LeftOut
left_out_of w = record { sacl = has_sacl w; of_entries = are_trimmed w.dacl }

abbrev pub nothing : LeftOut
nothing = record { sacl = false; of_entries = false }

abbrev pub is_nothing : LeftOut → Bool
is_nothing left_out = not left_out.sacl && not left_out.of_entries

-- ---- the plain part

-- the text is that of this whole descriptor
abbrev pub IsWhole : Aliases → List ℕ → WholeDescriptor → Type 0
IsWhole known text d = whole_found known text ≡ Ok (d, [])

-- it has this fault first, where a descriptor may be a whole one, at its offset in bytes
abbrev pub IsWholeFault : Aliases → List ℕ → TextFault → ℕ → Type 0
IsWholeFault known text fault place = (there : List ℕ) × (whole_found known text ≡ Err (fault, there))
    × (place ≡ length text - length there)

-- this is the plain part of the text, and this was left out
abbrev pub IsTextPart : Aliases → (whole : Bool) → List ℕ → DescriptorValue → LeftOut → Type 0
IsTextPart known whole text d left_out = MatchBool whole
    ((w : WholeDescriptor) × IsWhole known text w × (plain_part w ≡ Ok d) × (left_out ≡ left_out_of w))
    (Spells (sddl_in known) text d × (left_out ≡ nothing))

-- this is the plain part of the text; whether a SACL was left out
abbrev pub IsPart : Aliases → (whole : Bool) → List ℕ → DescriptorValue → Bool → Type 0
IsPart known whole text d left_out = MatchBool whole
    ((w : WholeDescriptor) × IsWhole known text w × (plain_part w ≡ Ok d) × (left_out ≡ has_sacl w))
    (Spells (sddl_in known) text d × (left_out ≡ false))

-- the first fault of the text
abbrev pub IsPartFault : Aliases → (whole : Bool) → List ℕ → TextFault → ℕ → Type 0
IsPartFault known whole text fault place =
    MatchBool whole (IsWholeFault known text fault place) (HasFault (sddl_in known) text fault place)

-- the text's descriptor is a whole one, and this the first entry of its DACL that has no plain form
abbrev pub IsOddPart : Aliases → (whole : Bool) → List ℕ → OddEntry → Type 0
IsOddPart known whole text odd =
    (whole ≡ true) × (w : WholeDescriptor) × IsWhole known text w × (plain_part w ≡ Err odd)

-- out of memory comes for a valid text alone, and of a whole descriptor also for one that has a `(`
abbrev pub TakesMemory : Aliases → (whole : Bool) → List ℕ → Type 0
TakesMemory known whole text = MatchBool whole
    (IsTrue (has_opening text) ⊎ ((w : WholeDescriptor) × IsWhole known text w))
    ((d : DescriptorValue) × Spells (sddl_in known) text d)

-- why the text has no plain part
abbrev pub IsNoPart : Aliases → (whole : Bool) → List ℕ → PartError → Type 0
IsNoPart known whole text (Fault fault place) = IsPartFault known whole text fault place
IsNoPart known whole text (Odd odd) = IsOddPart known whole text odd
IsNoPart known whole text Memory = TakesMemory known whole text

abbrev pub part_error : TextError → PartError
part_error (texts.Fault fault place) = Fault fault place
part_error texts.Memory = Memory
