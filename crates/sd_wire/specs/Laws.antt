-- The laws of the self-relative form.
use Rattle.std.specs.Prelude.{◌≡◌, ℕ, ◌<◌, List, slice_index, Ok, Err}
use Rattle.sd_acl.specs.Descriptor.{DescriptorValue, IsDescriptor, HaveNamedFlags}
use Rattle.sd_wire.specs.declared.fault.WireFault.{WireFault}
use Rattle.sd_wire.specs.Reading.{descriptor_read}
use Rattle.sd_wire.specs.Standing.{Holds}
use Rattle.sd_wire.specs.Writing.{wire_of}

-- what is written is parsed again
abbrev pub DescriptorsComeBack : Type 0
DescriptorsComeBack = (d : DescriptorValue) → IsDescriptor d → HaveNamedFlags d.dacl
    → descriptor_read (wire_of d) ≡ Ok d

-- what is parsed is in the bytes
abbrev pub ReadingsAreHeld : Type 0
ReadingsAreHeld = (bytes : List ℕ) (d : DescriptorValue) → ((i : ℕ) → slice_index bytes i < 256)
    → descriptor_read bytes ≡ Ok d → Holds bytes d

-- what is in the bytes is parsed
abbrev pub WhatIsHeldIsRead : Type 0
WhatIsHeldIsRead = (bytes : List ℕ) (d : DescriptorValue) → IsDescriptor d → Holds bytes d
    → descriptor_read bytes ≡ Ok d

-- bytes hold one descriptor at most
abbrev pub OneIsHeld : Type 0
OneIsHeld = (bytes : List ℕ) (d e : DescriptorValue) → IsDescriptor d → IsDescriptor e → Holds bytes d → Holds bytes e
    → d ≡ e

-- bytes that hold a descriptor have no fault
abbrev pub NoneIsHeldBesideAFault : Type 0
NoneIsHeldBesideAFault = (bytes : List ℕ) (d : DescriptorValue) (fault : WireFault) → IsDescriptor d → Holds bytes d
    → ¬ (descriptor_read bytes ≡ Err fault)
