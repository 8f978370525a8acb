-- What of a SACL may deny what a DACL grants, and no verdict looks at ([MS-DTYP] 2.5.3.3): central policies, trust
-- labels and access filters.
use Rattle.std.specs.Prelude.{ℕ, Bool, true, false, not, ◌&&◌, ◌||◌}
use Rattle.std.specs.List.{list_any}
use Rattle.std.specs.Option.{option_map_or}
use Rattle.sd_acl.specs.Ace.{passes_on}
use Rattle.sd_acl.specs.declared.descriptor.DaclOf.TheVariants.{Absent, Null, List as Entries}
use Rattle.sd_check.specs.declared.verdict.Verdict.{Verdict}
use Rattle.sd_check.specs.declared.verdict.Verdict.TheVariants.{Granted}
use Rattle.sd_label.specs.Label.{is_label}
use Rattle.sd_whole.specs.Entry.{for_children_alone}
use Rattle.sd_whole.specs.Kind.{kind_of}
use Rattle.sd_whole.specs.Reading.{WholeAcl}
use Rattle.sd_whole.specs.declared.ace.WholeAce.{WholeAce}
use Rattle.sd_whole.specs.declared.ace.WholeAce.TheVariants.{Plain, Typed, Opaque}
use Rattle.sd_whole.specs.declared.descriptor.WholeDescriptor.{WholeDescriptor}
use Rattle.sd_whole.specs.declared.kind.WholeKind.{WholeKind}
use Rattle.sd_whole.specs.declared.kind.WholeKind.TheVariants.{ScopedPolicy, TrustLabel, AccessFilter}

-- a type whose entries may deny
abbrev pub limits : WholeKind → Bool
limits ScopedPolicy = true
limits TrustLabel = true
limits AccessFilter = true
limits kind = false

-- so may an entry that can't be read: of these types, a label, or of a type that isn't known
abbrev pub limits_unread : ℕ → Bool
limits_unread number = option_map_or (λ kind. limits kind || is_label kind) (kind_of number) true

-- an entry counts for the object itself unless it is for children alone; below it, always
abbrev pub counts : (below : Bool) → ℕ → Bool
counts below flags = below || not (for_children_alone flags)

-- the entry may deny of the object itself; or, below, of what is made in it, where so may a label that is passed on
abbrev pub is_limit : (below : Bool) → WholeAce → Bool
is_limit below (Plain e) = false
is_limit below (Typed e) =
    (limits e.kind && counts below e.flags.0) || (below && is_label e.kind && passes_on e.flags.0)
is_limit below (Opaque e) = limits_unread e.kind && counts below e.flags.0

abbrev pub has_limits : (below : Bool) → WholeAcl → Bool
has_limits below Absent = false
has_limits below Null = false
has_limits below (Entries list) = list_any (is_limit below) list.entries

-- a verdict that grants what an entry may deny
abbrev pub grants : Verdict → Bool
grants (Granted mask) = true
grants verdict = false

abbrev pub may_be_denied : Verdict → WholeDescriptor → Bool
may_be_denied verdict d = grants verdict && has_limits false d.sacl
