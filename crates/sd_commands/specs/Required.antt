-- A descriptor without a list of entries, under `--require-dacl`.
use Rattle.std.specs.Prelude.{ℕ, Bool, List, Option, Some, None, codes, if◌then◌else◌}
use Rattle.sd_acl.specs.declared.descriptor.DaclOf.{DaclOf}
use Rattle.sd_acl.specs.declared.descriptor.DaclOf.TheVariants.{Absent, Null, List as Entries}

-- what a DACL is in place of a list of entries
abbrev pub without_list : {L : Type 0} → DaclOf L → Option (List ℕ)
without_list Absent = Some (codes "no DACL")
without_list Null = Some (codes "a null DACL")
without_list (Entries list) = None

-- under `--require-dacl`, what a DACL is in place of a list: without one everything is granted ([MS-DTYP] 2.5.3.2)
abbrev pub missing_dacl : {L : Type 0} → Bool → DaclOf L → Option (List ℕ)
missing_dacl is_required dacl = if is_required then without_list dacl else None
