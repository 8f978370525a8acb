-- What each entry of a DACL is for one question ([MS-DTYP] 2.5.3.2, EvaluateDacl; object types also [MS-ADTS] 5.1.3): a
-- plain allow or deny. One that has no part in the question becomes an allow that names no right: so every entry keeps
-- its number, and one for OWNER RIGHTS limits the owner whether it applies or not.
use Rattle.std.specs.Prelude.{◌≡◌, ℕ, Bool, true, false, not, ◌&&◌, ◌||◌, List, [], ◌∷◌, Option, Some, None}
use Rattle.std.specs.Prelude.{Result, Ok, Err, if◌then◌else◌}
use Rattle.std.specs.Bool.{beq}
use Rattle.std.specs.List.{list_any}
use Rattle.std.specs.Str.{bytes_eq}
use Rattle.sd_sid.specs.Sid.{SidValue, same_sid}
use Rattle.sd_acl.specs.declared.ace.Ace.{Ace}
use Rattle.sd_acl.specs.declared.ace.AceKind.{AceKind}
use Rattle.sd_acl.specs.declared.ace.AceKind.TheVariants as plain
use Rattle.sd_check.specs.declared.grounds.Pass.{Pass}
use Rattle.sd_check.specs.declared.grounds.Pass.TheVariants.{First, Second}
use Rattle.sd_evaluation.specs.Truth.{applies}
use Rattle.sd_whole.specs.Entry.{for_children_alone}
use Rattle.sd_whole.specs.declared.ace.TypedAce.{TypedAce}
use Rattle.sd_whole.specs.declared.ace.WholeAce.{WholeAce}
use Rattle.sd_whole.specs.declared.ace.WholeAce.TheVariants.{Plain, Typed, Opaque}
use Rattle.sd_whole.specs.declared.kind.WholeKind.{WholeKind}
use Rattle.sd_whole.specs.declared.kind.WholeKind.TheVariants.{Allow, Deny, ObjectAllow, ObjectDeny, CallbackAllow}
use Rattle.sd_whole.specs.declared.kind.WholeKind.TheVariants.{CallbackDeny, CallbackObjectAllow, CallbackObjectDeny}
use Rattle.sd_whole.specs.declared.plain.OddKind.TheVariants.{SystemAce, OpaqueAce}
use Rattle.sd_whole.specs.declared.types.Guid.{Guid}
use Rattle.sd_whole.specs.Kind.{plain_kind}
use Rattle.sd_whole.specs.Plain.{plain_ace}
use Rattle.sd_specialize.specs.Context.{ContextValue}
use Rattle.sd_specialize.specs.declared.fault.EntryError.{EntryError}
use Rattle.sd_specialize.specs.declared.fault.EntryError.TheVariants as entries
use Rattle.sd_specialize.specs.declared.fault.RefusedKind.{RefusedKind}
use Rattle.sd_specialize.specs.declared.fault.RefusedKind.TheVariants.{Odd, PassesDiffer}

-- ---- whom an entry is for (2.5.3.1.1, SidInToken)

-- PRINCIPAL SELF, S-1-5-10 (2.4.2.4)
abbrev pub principal_self : SidValue
principal_self = record { authority = 5; subs = 10 ∷ [] }

abbrev pub sid_or : Option SidValue → SidValue → SidValue
sid_or None sid = sid
sid_or (Some named) sid = named

-- PRINCIPAL SELF is the SID that the question names for it, if it names one; any other SID is itself
abbrev pub trustee : ContextValue → SidValue → SidValue
trustee c sid = if same_sid sid principal_self then sid_or c.principal_self sid else sid

-- ---- for which object types an entry is (2.5.3.2; [MS-ADTS] 5.1.3)

-- the type is one of those asked about
abbrev pub is_asked : List Guid → Guid → Bool
is_asked chain type = list_any (λ (asked : Guid). bytes_eq asked.bytes type.bytes) chain

-- an allow without an ObjectType is for the whole object; one with it is for that type alone
abbrev pub allows_type : List Guid → Option Guid → Bool
allows_type chain None = true
allows_type chain (Some type) = is_asked chain type

-- where the question asks about the whole object, a deny for a type denies it; else it is for that type alone
abbrev pub denies_type : List Guid → Option Guid → Bool
denies_type chain None = true
denies_type [] (Some type) = true
denies_type (asked ∷ more) (Some type) = is_asked (asked ∷ more) type

-- ---- conditions (2.5.3.1.5)

-- an allow applies only if its condition is true
abbrev pub allows_by_condition : ContextValue → Pass → TypedAce → Bool
allows_by_condition c pass e = applies (c.truth pass plain.Allow e.trailing) plain.Allow

-- a deny applies unless its condition is false
abbrev pub denies_by_condition : ContextValue → Pass → TypedAce → Bool
denies_by_condition c pass e = applies (c.truth pass plain.Deny e.trailing) plain.Deny

-- ---- which entries apply (2.5.3.2)

-- an entry for object types applies to those, one with a condition where its condition lets it, one with both where
-- both do; and entries of a SACL don't apply
abbrev pub applies_as : WholeKind → ContextValue → Pass → TypedAce → Bool
applies_as Allow c pass e = true
applies_as Deny c pass e = true
applies_as ObjectAllow c pass e = allows_type c.chain e.types.object
applies_as ObjectDeny c pass e = denies_type c.chain e.types.object
applies_as CallbackAllow c pass e = allows_by_condition c pass e
applies_as CallbackDeny c pass e = denies_by_condition c pass e
applies_as CallbackObjectAllow c pass e =
    allows_type c.chain e.types.object && allows_by_condition c pass e
applies_as CallbackObjectDeny c pass e =
    denies_type c.chain e.types.object && denies_by_condition c pass e
applies_as _ c pass e = false

abbrev pub applies_in : ContextValue → Pass → TypedAce → Bool
applies_in c pass e = applies_as e.kind c pass e

-- one list says for both passes of a restricted token which entries apply, if each applies in both or in neither
abbrev pub passes_agree : ContextValue → TypedAce → Bool
passes_agree c e = not c.is_restricted || beq (applies_in c Second e) (applies_in c First e)

-- ---- what an entry becomes

-- what an entry of the type decides; entries of a SACL decide nothing
abbrev pub decides : WholeKind → Option AceKind
decides Allow = Some plain.Allow
decides Deny = Some plain.Deny
decides ObjectAllow = Some plain.Allow
decides ObjectDeny = Some plain.Deny
decides CallbackAllow = Some plain.Allow
decides CallbackDeny = Some plain.Deny
decides CallbackObjectAllow = Some plain.Allow
decides CallbackObjectDeny = Some plain.Deny
decides _ = None

-- an allow or a deny for its trustee, with its named flags
abbrev pub plain_for : ContextValue → AceKind → ℕ → ℕ → SidValue → Ace
plain_for c kind flags mask sid = plain_ace kind flags mask (trustee c sid)

-- an entry without a part: an allow that names no right
abbrev pub without_part : ContextValue → ℕ → SidValue → Ace
without_part c flags sid = plain_for c plain.Allow flags 0 sid

-- NULL SID, nobody's, S-1-0-0 (2.4.2.4)
abbrev pub nobody : SidValue
nobody = record { authority = 0; subs = 0 ∷ [] }

-- an effective allow or deny, whose part is its mask where it applies
abbrev pub deciding_for : ContextValue → AceKind → TypedAce → Result Ace RefusedKind
deciding_for c kind e =
    if not (passes_agree c e) then Err PassesDiffer
    else if applies_in c First e then Ok (plain_for c kind e.flags.0 e.mask e.sid)
    else Ok (without_part c e.flags.0 e.sid)

abbrev pub effective_for : Option AceKind → ContextValue → TypedAce → Result Ace RefusedKind
effective_for None c e = Err (Odd SystemAce)
effective_for (Some kind) c e = deciding_for c kind e

-- an entry that isn't plain: one for children alone has no part, whatever its type
abbrev pub other_for : ContextValue → TypedAce → Result Ace RefusedKind
other_for c e =
    if for_children_alone e.flags.0 then Ok (without_part c e.flags.0 e.sid)
    else effective_for (decides e.kind) c e

-- an entry with a layout: an allow or a deny is what it is
abbrev pub typed_for : Option AceKind → ContextValue → TypedAce → Result Ace RefusedKind
typed_for (Some kind) c e = Ok (plain_for c kind e.flags.0 e.mask e.sid)
typed_for None c e = other_for c e

-- what an entry is for the question, or why it is refused: an effective entry of an unknown type may be a deny (fail
-- closed)
abbrev pub entry_for : ContextValue → WholeAce → Result Ace RefusedKind
entry_for c (Plain e) = Ok (plain_for c e.kind e.flags.0 e.mask e.sid)
entry_for c (Typed e) = typed_for (plain_kind e.kind) c e
entry_for c (Opaque e) =
    if for_children_alone e.flags.0 then Ok (without_part c e.flags.0 nobody) else Err (Odd OpaqueAce)

-- what a function returns is what an entry is for the question, or why it is refused, unless memory runs out
abbrev pub GivesEntry : Result Ace EntryError → Result Ace RefusedKind → Type 0
GivesEntry (Ok e) found = found ≡ Ok e
GivesEntry (Err (entries.Refused kind)) found = found ≡ Err kind
GivesEntry (Err entries.Memory) found = Unit {0}
