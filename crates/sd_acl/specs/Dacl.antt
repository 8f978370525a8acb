-- The three kinds of DACL.
use Rattle.std.specs.Prelude.{Bool, true, false, IsTrue}
use Rattle.std.specs.Prelude as std
use Rattle.sd_acl.specs.declared.ace.Ace.{Ace}
use Rattle.sd_acl.specs.declared.descriptor.DaclOf.{DaclOf}
use Rattle.sd_acl.specs.declared.descriptor.DaclOf.TheVariants.{Absent, Null, List}

abbrev pub Dacl : Type 0
Dacl = DaclOf (std.List Ace)

abbrev pub is_absent : Dacl → Bool
is_absent Absent = true
is_absent Null = false
is_absent (List es) = false

-- the descriptor has no DACL
abbrev pub IsAbsent : Dacl → Type 0
IsAbsent dacl = IsTrue (is_absent dacl)
