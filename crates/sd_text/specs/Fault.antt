-- The numbers and the names of the faults, and which error a parser may return.
use Rattle.std.specs.Prelude.{ℕ, List, codes}
use Rattle.sd_text.specs.declared.fault.TextFault.{TextFault}
use Rattle.sd_text.specs.declared.fault.TextError.{TextError}
use Rattle.sd_text.specs.declared.fault.TextError.TheVariants.{Fault, Memory}
use Rattle.sd_text.specs.Grammar.{Grammar, HasFault}
use Rattle.sd_text.specs.declared.fault.TextFault.TheVariants.{Syntax, HasSacl, EntryKind, ObjectGuid, UnknownAlias}
use Rattle.sd_text.specs.declared.fault.TextFault.TheVariants.{DomainAlias, Range, AclTooLarge}

-- the number by which programs name a fault
abbrev pub number_of : TextFault → ℕ
number_of Syntax = 1
number_of HasSacl = 2
number_of EntryKind = 3
number_of ObjectGuid = 4
number_of UnknownAlias = 5
number_of DomainAlias = 6
number_of Range = 7
number_of AclTooLarge = 8

-- the name by which programs print it
abbrev pub name_of : TextFault → List ℕ
name_of Syntax = codes "Syntax"
name_of HasSacl = codes "HasSacl"
name_of EntryKind = codes "EntryKind"
name_of ObjectGuid = codes "ObjectGuid"
name_of UnknownAlias = codes "UnknownAlias"
name_of DomainAlias = codes "DomainAlias"
name_of Range = codes "Range"
name_of AclTooLarge = codes "AclTooLarge"

-- the error is a fault of the text, at its offset, or out of memory
abbrev pub StandsIn : {A : Type 0} → Grammar A → List ℕ → TextError → Type 0
StandsIn grammar text (Fault fault place) = HasFault grammar text fault place
StandsIn grammar text Memory = Unit {0}
