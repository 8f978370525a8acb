-- The laws of whole descriptors as text.
use Rattle.std.specs.Prelude.{◌≡◌, Ok}
use Rattle.sd_acl.specs.Descriptor.{DescriptorValue, IsDescriptor, HaveNamedFlags}
use Rattle.sd_text.specs.Canon.{canon_in}
use Rattle.sd_text.specs.declared.right_names.RightNames.{RightNames}
use Rattle.sd_whole_text.specs.Descriptor.{whole_text}
use Rattle.sd_whole_text.specs.Plain.{whole_of}

-- a plain descriptor has the same text as a whole one, byte for byte, unless an entry has the flag CR
abbrev pub PlainTextsStay : Type 0
PlainTextsStay = (names : RightNames) (d : DescriptorValue) → IsDescriptor d → HaveNamedFlags d.dacl
    → whole_text names (whole_of d) ≡ Ok (canon_in names d)
