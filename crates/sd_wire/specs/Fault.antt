-- The faults of bytes that hold no descriptor: their numbers and their names.
use Rattle.std.specs.Prelude.{ℕ, List, codes}
use Rattle.sd_wire.specs.declared.fault.WireFault.{WireFault}
use Rattle.sd_wire.specs.declared.fault.WireFault.TheVariants.{Short, Revision, NotSelfRelative, HasSacl, BadOffset}
use Rattle.sd_wire.specs.declared.fault.WireFault.TheVariants.{BadSid, AclRevision, AclSize, EntrySize, EntryKind}

abbrev pub wire_fault_number : WireFault → ℕ
wire_fault_number Short = 1
wire_fault_number Revision = 2
wire_fault_number NotSelfRelative = 3
wire_fault_number HasSacl = 4
wire_fault_number BadOffset = 5
wire_fault_number BadSid = 6
wire_fault_number AclRevision = 7
wire_fault_number AclSize = 8
wire_fault_number EntrySize = 9
wire_fault_number EntryKind = 10

abbrev pub wire_fault_name : WireFault → List ℕ
wire_fault_name Short = codes "Short"
wire_fault_name Revision = codes "Revision"
wire_fault_name NotSelfRelative = codes "NotSelfRelative"
wire_fault_name HasSacl = codes "HasSacl"
wire_fault_name BadOffset = codes "BadOffset"
wire_fault_name BadSid = codes "BadSid"
wire_fault_name AclRevision = codes "AclRevision"
wire_fault_name AclSize = codes "AclSize"
wire_fault_name EntrySize = codes "EntrySize"
wire_fault_name EntryKind = codes "EntryKind"
