-- Laws of all texts.
use Rattle.std.specs.Prelude.{◌≡◌, ℕ, ◌^◌, ◌<◌, ◌⊎◌, List}
use Rattle.sd_sid.specs.Sid.{SidValue, IsSid}
use Rattle.sd_acl.specs.Descriptor.{DescriptorValue, IsDescriptor, HaveNamedFlags}
use Rattle.sd_text.specs.Canon.{sid_canon, rights_canon_in, canon_in}
use Rattle.sd_text.specs.Rights.{mask_text}
use Rattle.sd_text.specs.Sddl.{sddl_in}
use Rattle.sd_text.specs.Sid.{sid_text_in}
use Rattle.sd_text.specs.declared.alias.Aliases.{Aliases}
use Rattle.sd_text.specs.declared.fault.TextFault.{TextFault}
use Rattle.sd_text.specs.declared.right_names.RightNames.{RightNames}
use Rattle.sd_text.specs.Grammar.{Grammar, Spells, HasFault}

-- no text has two values
abbrev pub HasOneValue : {A : Type 0} → Grammar A → Type 0
HasOneValue {A = A} grammar = (text : List ℕ) (a b : A) → Spells grammar text a → Spells grammar text b → a ≡ b

-- each text has a value or a fault
abbrev pub HasValueOrFault : {A : Type 0} → Grammar A → Type 0
HasValueOrFault {A = A} grammar = (text : List ℕ) → ((a : A) × Spells grammar text a)
    ⊎ ((fault : TextFault) × (place : ℕ) × HasFault grammar text fault place)

-- no text has both
abbrev pub NeverHasBoth : {A : Type 0} → Grammar A → Type 0
NeverHasBoth {A = A} grammar = (text : List ℕ) (a : A) (fault : TextFault) (place : ℕ) → Spells grammar text a
    → HasFault grammar text fault place → ⊥

-- no text has two faults, nor one at two offsets
abbrev pub HasOneFault : {A : Type 0} → Grammar A → Type 0
HasOneFault grammar = (text : List ℕ) (f g : TextFault) (p q : ℕ) → HasFault grammar text f p
    → HasFault grammar text g q → (f ≡ g) × (p ≡ q)

-- the printed text of a descriptor spells it, whichever aliases a text may have, and whichever names rights have
abbrev pub DescriptorsComeBack : Type 0
DescriptorsComeBack = (known : Aliases) (names : RightNames) (d : DescriptorValue) → IsDescriptor d
    → HaveNamedFlags d.dacl → Spells (sddl_in known) (canon_in names d) d

-- the printed text of a SID spells it
abbrev pub SidsComeBack : Type 0
SidsComeBack = (known : Aliases) (sid : SidValue) → IsSid sid → Spells (sid_text_in known) (sid_canon sid) sid

-- the printed text of a mask spells it
abbrev pub MasksComeBack : Type 0
MasksComeBack = (names : RightNames) (mask : ℕ) → mask < 2 ^ 32 → Spells mask_text (rights_canon_in names mask) mask
