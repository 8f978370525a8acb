-- What children of a class inherit of a whole DACL, for all tokens ([MS-DTYP] 2.5.3.4): plain entries, of which the
-- plain rule makes the list of what is made in the container. That rule looks at an entry's flags, mask and SID, and
-- changes nothing else of it. So an entry with a condition is handed on as one for its marker is, which stands in a
-- child for who has the SID and meets the condition there; and one with an ObjectType is for what is asked about of the
-- child. PRINCIPAL SELF is the child's own SID, and stays as it is.
use Rattle.std.specs.Prelude.{ℕ, Bool, false, not, ◌&&◌, ◌||◌, List, [], ◌∷◌, ◌++◌, Option, Some, None, is_some, fold}
use Rattle.std.specs.Prelude.{if◌then◌else◌, map}
use Rattle.std.specs.List.{filter_map, list_any}
use Rattle.std.specs.Option.{option_to_list}
use Rattle.sd_sid.specs.Sid.{SidValue, owner_rights, same_sid}
use Rattle.sd_acl.specs.Ace.{passes_on}
use Rattle.sd_acl.specs.declared.ace.Ace.{Ace}
use Rattle.sd_acl.specs.declared.ace.AceKind.{AceKind}
use Rattle.sd_acl.specs.declared.ace.AceKind.TheVariants as plain
use Rattle.sd_acl.specs.declared.descriptor.DaclOf.TheVariants.{Absent, Null, List as Entries}
use Rattle.sd_whole.specs.Plain.{plain_ace}
use Rattle.sd_whole.specs.Reading.{WholeAcl}
use Rattle.sd_whole.specs.declared.ace.TypedAce.{TypedAce}
use Rattle.sd_whole.specs.declared.ace.WholeAce.{WholeAce}
use Rattle.sd_whole.specs.declared.ace.WholeAce.TheVariants.{Plain, Typed, Opaque}
use Rattle.sd_whole.specs.declared.types.Guid.{Guid}
use Rattle.sd_whole.specs.declared.types.ObjectTypes.{ObjectTypes}
use Rattle.sd_specialize.specs.Context.{ContextValue}
use Rattle.sd_specialize.specs.Entry.{allows_type, decides, is_asked, nobody}
use Rattle.sd_specialize.specs.Everyone.{has_condition}
use Rattle.sd_specialize.specs.Marked.{is_marker, is_of_types, mark_place, marker}

-- none where there is no list
abbrev pub entries_of : WholeAcl → List WholeAce
entries_of Absent = []
entries_of Null = []
entries_of (Entries list) = list.entries

-- ---- the plain entries

-- whom the entry is for: where it has a condition, its marker
abbrev pub handed_sid : List TypedAce → TypedAce → SidValue
handed_sid marks e = if has_condition e.kind then marker (mark_place marks e) else e.sid

-- an entry that names no right
abbrev pub no_right : ℕ → SidValue → Ace
no_right flags sid = plain_ace plain.Allow flags 0 sid

-- with flags and mask as they are, also where it is inherit-only; what is for another object type names no right, nor
-- what is no allow and no deny
abbrev pub handed_typed : Option AceKind → ContextValue → List TypedAce → TypedAce → Ace
handed_typed None c marks e = no_right e.flags.0 e.sid
handed_typed (Some kind) c marks e =
    if is_of_types e.kind c e then plain_ace kind e.flags.0 e.mask (handed_sid marks e) else no_right e.flags.0 e.sid

-- a child of this class, or of one that no entry names, has the entry as effective: it has no InheritedObjectType, or
-- that is the class (2.4.4.3)
abbrev pub is_of_class : Option Guid → ObjectTypes → Bool
is_of_class class types = allows_type (option_to_list class) types.inherited

-- to a child of another class it is handed on as inherit-only: it has no part there, and limits no owner
abbrev pub handed_entry : Option Guid → ContextValue → List TypedAce → WholeAce → Ace
handed_entry class c marks (Plain e) = plain_ace e.kind e.flags.0 e.mask e.sid
handed_entry class c marks (Typed e) =
    if is_of_class class e.types then handed_typed (decides e.kind) c marks e else no_right e.flags.0 nobody
handed_entry class c marks (Opaque e) = no_right e.flags.0 nobody

-- of a DACL each entry, for children of the class, of which this is asked, by these marks
abbrev pub handed_entries : Option Guid → ContextValue → List TypedAce → WholeAcl → List Ace
handed_entries class c marks acl = map (handed_entry class c marks) (entries_of acl)

-- ---- the classes of children

-- the class that the entry names, if it is handed on
abbrev pub handed_class : WholeAce → Option Guid
handed_class (Plain e) = None
handed_class (Typed e) = if passes_on e.flags.0 then e.types.inherited else None
handed_class (Opaque e) = None

-- classes, with one more, each once
abbrev pub with_class : List Guid → Option Guid → List Guid
with_class classes None = classes
with_class classes (Some class) = if is_asked classes class then classes else classes ++ class ∷ []

-- with those that these entries name, in the order of their first places
abbrev pub with_classes : List Guid → List WholeAce → List Guid
with_classes classes es = fold (λ found e. with_class found (handed_class e)) classes es

-- that entries of two DACLs name
abbrev pub handed_classes : (one other : WholeAcl) → List Guid
handed_classes one other = with_classes (with_classes [] (entries_of one)) (entries_of other)

-- ---- the conditions of children

-- the entry, if it has a condition and is handed on: OI or CI is among its flags (2.4.4.1)
abbrev pub handed_conditional : WholeAce → Option TypedAce
handed_conditional (Plain e) = None
handed_conditional (Typed e) = if has_condition e.kind && passes_on e.flags.0 then Some e else None
handed_conditional (Opaque e) = None

abbrev pub handed_conditionals_of : List WholeAce → List TypedAce
handed_conditionals_of es = filter_map handed_conditional es

abbrev pub handed_conditionals : WholeAcl → List TypedAce
handed_conditionals acl = handed_conditionals_of (entries_of acl)

-- there is one
abbrev pub is_handed_conditional : WholeAce → Bool
is_handed_conditional e = is_some (handed_conditional e)

abbrev pub hands_on_conditions : WholeAcl → Bool
hands_on_conditions acl = list_any is_handed_conditional (entries_of acl)

-- ---- what the plain entries don't say

-- it is handed on, and is no allow and no deny
abbrev pub is_unsaid : WholeAce → Bool
is_unsaid (Plain e) = false
is_unsaid (Typed e) = passes_on e.flags.0 && not (is_some (decides e.kind))
is_unsaid (Opaque e) = passes_on e.flags.0

-- it is handed on, and is for a SID that is a marker; or limits the owner of a child, whatever its condition comes to
abbrev pub hinders_marks : WholeAce → Bool
hinders_marks (Plain e) = passes_on e.flags.0 && is_marker e.sid
hinders_marks (Typed e) =
    passes_on e.flags.0 && (is_marker e.sid || (has_condition e.kind && same_sid e.sid owner_rights))
hinders_marks (Opaque e) = false

-- one of the entries is such
abbrev pub has_unsaid : WholeAcl → Bool
has_unsaid acl = list_any is_unsaid (entries_of acl)

abbrev pub has_hindrance : WholeAcl → Bool
has_hindrance acl = list_any hinders_marks (entries_of acl)

-- of two DACLs: the plain entries of one don't say what children inherit; or there are conditions, for which no marker
-- can stand
abbrev pub leaves_out_children : (one other : WholeAcl) → Bool
leaves_out_children one other = (has_unsaid one || has_unsaid other)
    || ((hands_on_conditions one || hands_on_conditions other) && (has_hindrance one || has_hindrance other))
