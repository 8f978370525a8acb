-- The laws of whole descriptors' texts, parsed.
use Rattle.std.specs.Prelude.{◌≡◌, ℕ, ◌^◌, ◌<◌, Bool, true, false, List, [], Ok}
use Rattle.std.specs.List.{AllByRecursion}
use Rattle.sd_acl.specs.Descriptor.{DescriptorValue, IsDescriptor, HaveNamedFlags}
use Rattle.sd_text.specs.Canon.{canon_in}
use Rattle.sd_text.specs.Grammar.{Spells}
use Rattle.sd_text.specs.Sddl.{sddl_in}
use Rattle.sd_text.specs.declared.alias.Aliases.{Aliases}
use Rattle.sd_text.specs.declared.right_names.RightNames.{RightNames}
use Rattle.sd_whole.specs.Whole.{IsGuid}
use Rattle.sd_whole.specs.declared.types.Guid.{Guid}
use Rattle.sd_whole_parse.specs.Descriptor.{whole_found}
use Rattle.sd_whole_parse.specs.Guid.{guid}
use Rattle.sd_whole_parse.specs.Part.{IsNoPart, IsPart, IsTextPart, nothing}
use Rattle.sd_whole_parse.specs.declared.part.LeftOut.{LeftOut}
use Rattle.sd_whole_parse.specs.declared.part.PartError.{PartError}
use Rattle.sd_whole_parse.specs.declared.part.PartError.TheVariants.{Memory}
use Rattle.sd_whole_text.specs.Guid.{guid_text}
use Rattle.sd_whole_text.specs.Plain.{whole_of}

-- the text of a plain descriptor says the same descriptor, made whole
abbrev pub PlainTextsAreReadAlike : Type 0
PlainTextsAreReadAlike = (known : Aliases) (text : List ℕ) (d : DescriptorValue) → Spells (sddl_in known) text d
    → whole_found known text ≡ Ok (whole_of d, [])

-- so does its printed text, whichever names rights have
abbrev pub PlainTextsComeBack : Type 0
PlainTextsComeBack = (known : Aliases) (names : RightNames) (d : DescriptorValue) → IsDescriptor d
    → HaveNamedFlags d.dacl → whole_found known (canon_in names d) ≡ Ok (whole_of d, [])

-- the plain part of the text of a plain descriptor is that descriptor, and nothing is left out, whether the text may be
-- that of a whole one or not
abbrev pub PlainTextsAreTheirPart : Type 0
PlainTextsAreTheirPart =
    (known : Aliases) (whole : Bool) (text : List ℕ) (d part : DescriptorValue) (left_out : LeftOut)
    → Spells (sddl_in known) text d → IsTextPart known whole text part left_out → (part ≡ d) × (left_out ≡ nothing)

-- and no SACL
abbrev pub PlainTextsHaveNoSacl : Type 0
PlainTextsHaveNoSacl = (known : Aliases) (whole : Bool) (text : List ℕ) (d part : DescriptorValue) (left_out : Bool)
    → Spells (sddl_in known) text d → IsPart known whole text part left_out → (part ≡ d) × (left_out ≡ false)

-- it has no plain part only where memory ran out
abbrev pub PlainTextsHaveAPart : Type 0
PlainTextsHaveAPart = (known : Aliases) (whole : Bool) (text : List ℕ) (d : DescriptorValue) (error : PartError)
    → Spells (sddl_in known) text d → IsNoPart known whole text error → error ≡ Memory

-- where nothing is left out of a text, it says just its plain part, made whole: a SACL, and what an entry lacks, are
-- all that can be left out
abbrev pub NothingElseIsLeftOut : Type 0
NothingElseIsLeftOut = (known : Aliases) (text : List ℕ) (d : DescriptorValue) → IsTextPart known true text d nothing
    → whole_found known text ≡ Ok (whole_of d, [])

-- the printed text of a GUID spells it
abbrev pub GuidsComeBack : Type 0
GuidsComeBack = (g : Guid) → IsGuid g → AllByRecursion (λ byte. byte < 2 ^ 8) g.bytes → Spells guid (guid_text g) g
