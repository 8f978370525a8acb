-- The plain list that a whole one is for a question where each condition lets its entry grant as much as it can, or as
-- little as it can ([MS-DTYP] 2.5.3.1.5): from the list in which markers stand for conditions.
use Rattle.std.specs.Prelude.{ℕ, zero, suc, Bool, not, List, [], ◌∷◌, ◌++◌, length, slice_get, Option, Some, None}
use Rattle.std.specs.Prelude.{Result, Ok, if◌then◌else◌}
use Rattle.sd_sid.specs.Sid.{SidValue, same_sid}
use Rattle.sd_acl.specs.Dacl.{Dacl}
use Rattle.sd_acl.specs.Descriptor.{DescriptorValue}
use Rattle.sd_acl.specs.declared.ace.Ace.{Ace}
use Rattle.sd_acl.specs.declared.ace.AceKind.TheVariants as plain
use Rattle.sd_acl.specs.declared.descriptor.DaclOf.TheVariants.{Absent, Null, List as Entries}
use Rattle.sd_specialize.specs.Entry.{principal_self, sid_or}
use Rattle.sd_specialize.specs.Marked.{conditional_in, is_deny}
use Rattle.sd_specialize.specs.Specialize.{fitting, ◌>>=◌}
use Rattle.sd_specialize.specs.declared.fault.SpecializeFault.{SpecializeFault}
use Rattle.sd_whole.specs.Reading.{WholeAcl}
use Rattle.sd_whole.specs.declared.ace.TypedAce.{TypedAce}
use Rattle.sd_whole.specs.declared.ace.WholeAce.{WholeAce}
use Rattle.sd_whole_lint.specs.Findings.{whole_entries}
use Rattle.sd_whole_lint.specs.declared.bounds.Bound.{Bound}
use Rattle.sd_whole_lint.specs.declared.bounds.Bound.TheVariants.{Most, Least}

-- its condition lets the entry apply: an allow where most is granted, a deny where least is
abbrev pub applies_at : Bound → TypedAce → Bool
applies_at Most e = not (is_deny e.kind)
applies_at Least e = is_deny e.kind

-- the SID that an entry for this one is for, as `trustee` says, where PRINCIPAL SELF is the first (2.5.3.1.1)
abbrev pub sid_for : Option SidValue → SidValue → SidValue
sid_for self sid = if same_sid sid principal_self then sid_or self sid else sid

-- the entry for its own SID in the place of its marker, or one that names no right
abbrev pub settled_by : Bound → Option SidValue → TypedAce → Ace → Ace
settled_by bound self e p =
    if applies_at bound e then record p { sid = sid_for self e.sid }
    else record p { kind = plain.Allow; mask = 0; sid = sid_for self e.sid }

abbrev pub settled_if : Bound → Option SidValue → Option TypedAce → Ace → Ace
settled_if bound self None p = p
settled_if bound self (Some e) p = settled_by bound self e p

-- the entry with a condition that a plain one is
abbrev pub conditional_at : Option WholeAce → Option TypedAce
conditional_at None = None
conditional_at (Some w) = conditional_in w

abbrev pub settled_at : Bound → Option SidValue → Option WholeAce → Option Ace → List Ace
settled_at bound self w None = []
settled_at bound self w (Some p) = settled_if bound self (conditional_at w) p ∷ []

-- the entries below a place
unfoldable pub settled_below : Bound → Option SidValue → List WholeAce → List Ace → ℕ → List Ace
settled_below bound self ws ps zero = []
settled_below bound self ws ps (suc k) =
    settled_below bound self ws ps k ++ settled_at bound self (slice_get ws k) (slice_get ps k)

-- the descriptor with that list, or that it is too large
abbrev pub settled_dacl : Bound → Option SidValue → List WholeAce → Dacl → Result Dacl SpecializeFault
settled_dacl bound self ws Absent = Ok Absent
settled_dacl bound self ws Null = Ok Null
settled_dacl bound self ws (Entries ps) =
    fitting (settled_below bound self ws ps (length ps)) >>= λ es. Ok (Entries es)

abbrev pub settled : Bound → Option SidValue → WholeAcl → DescriptorValue → Result DescriptorValue SpecializeFault
settled bound self whole d =
    settled_dacl bound self (whole_entries whole) d.dacl >>= λ dacl. Ok (record d { dacl = dacl })
