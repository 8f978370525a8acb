-- A descriptor, as far as a check looks at it.
use Rattle.std.specs.Prelude.{List}
use Rattle.sd_acl.specs.Dacl.{Dacl}
use Rattle.sd_acl.specs.Descriptor.{DescriptorValue}
use Rattle.sd_acl.specs.declared.ace.Ace.{Ace}
use Rattle.sd_check.specs.Check.{dacl_entries}
use Rattle.sd_analysis.specs.Sufficient.{Parts, entries_or_none}

abbrev pub parts_in : DescriptorValue → Parts
parts_in d = record { owner = d.owner; dacl = dacl_entries d.dacl }

-- the entries of a DACL: none where there is no list
abbrev pub entries_in : Dacl → List Ace
entries_in dacl = entries_or_none (dacl_entries dacl)
