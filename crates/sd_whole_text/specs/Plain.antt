-- Plain descriptors as whole ones ([MS-DTYP] 2.4.6): without a SACL, and with allows and denies alone in the DACL.
use Rattle.std.specs.Prelude.{ℕ, ◌+◌, cond, map}
use Rattle.sd_acl.specs.Dacl.{Dacl}
use Rattle.sd_acl.specs.Descriptor.{DescriptorValue}
use Rattle.sd_acl.specs.declared.descriptor.DaclOf.TheVariants.{Absent, Null, List as Entries}
use Rattle.sd_whole.specs.Reading.{WholeAcl}
use Rattle.sd_whole.specs.declared.ace.WholeAce.TheVariants.{Plain}
use Rattle.sd_whole.specs.declared.descriptor.WholeDescriptor.{WholeDescriptor}
use Rattle.sd_whole.specs.declared.list.ListRevision.TheVariants.{Standard}

-- the DACL, a list of revision 2
abbrev pub whole_dacl : Dacl → WholeAcl
whole_dacl Absent = Absent
whole_dacl Null = Null
whole_dacl (Entries es) = Entries (record { revision = Standard; entries = map (λ e. Plain e) es })

-- PD, DC and DI
abbrev pub control_of : DescriptorValue → ℕ
control_of d = cond d.protected 0x1000 0 + cond d.auto_req 0x0100 0 + cond d.auto_inherited 0x0400 0

abbrev pub whole_of : DescriptorValue → WholeDescriptor
whole_of d = record {
  resource_manager = 0;
  control = control_of d;
  owner = d.owner;
  group = d.group;
  sacl = Absent;
  dacl = whole_dacl d.dacl;
}
