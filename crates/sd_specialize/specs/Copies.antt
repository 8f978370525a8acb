-- Copies of entries for markers, in a plain list in which markers stand for conditions. A token that counts as having a
-- marker has the SID of its entry, so an entry for that SID speaks of the token too: behind it is a copy of it for the
-- marker. A deny has one for each marker of its SID, an allow for those of allows alone, since a token may have the SID
-- for denies alone where it has a marker of a deny.
use Rattle.std.specs.Prelude.{◌≡◌, ℕ, ◌+◌, Bool, true, false, not, ◌&&◌, ◌==◌, nat_lt, List, [], ◌∷◌, ◌++◌}
use Rattle.std.specs.Prelude.{if◌then◌else◌, Option, Some, None}
use Rattle.std.specs.List.{filter_map, flat_map, list_any}
use Rattle.std.specs.Option.{option_map_or}
use Rattle.sd_sid.specs.Mapping.{MappingValue}
use Rattle.sd_sid.specs.Sid.{SidValue, same_sid}
use Rattle.sd_acl.specs.Ace.{acl_size_of, is_allow}
use Rattle.sd_acl.specs.Dacl.{Dacl}
use Rattle.sd_acl.specs.Descriptor.{DescriptorValue}
use Rattle.sd_acl.specs.declared.ace.Ace.{Ace}
use Rattle.sd_acl.specs.declared.ace.AceKind.TheVariants.{Allow}
use Rattle.sd_acl.specs.declared.descriptor.DaclOf.TheVariants.{Absent, Null, List as Entries}
use Rattle.sd_check.specs.Check.{verdict}
use Rattle.sd_check.specs.Token.{TokenValue, stands_for}
use Rattle.sd_check.specs.declared.token.GroupState.TheVariants.{Enabled}
use Rattle.sd_whole.specs.declared.ace.TypedAce.{TypedAce}
use Rattle.sd_whole.specs.declared.ace.WholeAce.{WholeAce}
use Rattle.sd_specialize.specs.Context.{ContextValue}
use Rattle.sd_specialize.specs.Entry.{trustee}
use Rattle.sd_specialize.specs.Marked.{HasNoMarker, conditionals_of, hinders, is_deny, mark_place, marker, with_markers}
use Rattle.sd_specialize.specs.declared.copies.MarkerOf.{MarkerOf}

-- ---- whose markers

-- the marker with the number, the SID of the entry for whose condition it stands, and whether that denies
abbrev pub marker_of : ContextValue → ℕ → TypedAce → MarkerOf
marker_of c n e = record { marker = marker n; sid = trustee c e.sid; denies = is_deny e.kind }

-- the markers of entries from this number on: of entries that say the same the first one has it
abbrev pub markers_from : ContextValue → List TypedAce → ℕ → List TypedAce → List MarkerOf
markers_from c marks n [] = []
markers_from c marks n (e ∷ es) =
    if mark_place marks e == n then marker_of c n e ∷ markers_from c marks (n + 1) es
    else markers_from c marks (n + 1) es

abbrev pub markers_of : ContextValue → List TypedAce → List MarkerOf
markers_of c marks = markers_from c marks 0 marks

-- ---- copies

-- whoever has the marker has the SID of the entry, also for an allow
abbrev pub speaks_of : Ace → MarkerOf → Bool
speaks_of e m = same_sid e.sid m.sid && not (is_allow e.kind && m.denies)

abbrev pub copy_for : Ace → MarkerOf → Option Ace
copy_for e m = if speaks_of e m then Some (record e { sid = m.marker }) else None

-- the entry, and then its copies
abbrev pub with_its_copies : List MarkerOf → Ace → List Ace
with_its_copies ms e = e ∷ filter_map (copy_for e) ms

abbrev pub all_with_copies : List MarkerOf → List Ace → List Ace
all_with_copies ms es = flat_map (with_its_copies ms) es

-- a list that would take more than 65,535 bytes ([MS-DTYP] 2.4.5, AclSize) has none
abbrev pub list_with_copies : List MarkerOf → List Ace → List Ace
list_with_copies ms es = if nat_lt 65535 (acl_size_of (all_with_copies ms es)) then es else all_with_copies ms es

abbrev pub dacl_with_copies : List MarkerOf → Dacl → Dacl
dacl_with_copies ms Absent = Absent
dacl_with_copies ms Null = Null
dacl_with_copies ms (Entries es) = Entries (list_with_copies ms es)

-- a descriptor in which these markers stand for conditions
abbrev pub with_copies : ContextValue → List TypedAce → DescriptorValue → DescriptorValue
with_copies c marks d = record d { dacl = dacl_with_copies (markers_of c marks) d.dacl }

-- ---- laws

-- by the markers of entries for which markers can stand, copies change no verdict of a token with the markers that it
-- counts as having
abbrev pub CopiesChangeNothing : Type 0
CopiesChangeNothing = (c : ContextValue) (all : List WholeAce) → list_any (hinders c) all ≡ false
    → (t : TokenValue) → HasNoMarker t
    → (owner : Option SidValue) (es : List Ace) (g : MappingValue) (r : ℕ)
    → verdict owner (Some (list_with_copies (markers_of c (conditionals_of all)) es)) g
    (with_markers c (conditionals_of all) t) r
    ≡ verdict owner (Some es) g (with_markers c (conditionals_of all) t) r

-- the token, of this group too
abbrev pub with_group : SidValue → TokenValue → TokenValue
with_group sid t = record t { groups = (sid, Enabled) ∷ t.groups }

-- who has the marker of an allow is answered as who has its SID too, unless that is the owner
abbrev pub MarkersBringTheirSids : Type 0
MarkersBringTheirSids = (c : ContextValue) (all : List WholeAce) → list_any (hinders c) all ≡ false
    → (front : List MarkerOf) (m : MarkerOf) (back : List MarkerOf)
    → markers_of c (conditionals_of all) ≡ front ++ m ∷ back → m.denies ≡ false
    → (owner : Option SidValue) → option_map_or (same_sid m.sid) owner false ≡ false
    → (t : TokenValue) → stands_for t Allow m.marker ≡ true
    → (es : List Ace) (g : MappingValue) (r : ℕ)
    → verdict owner (Some (all_with_copies (front ++ m ∷ back) es)) g (with_group m.sid t) r
    ≡ verdict owner (Some (all_with_copies (front ++ m ∷ back) es)) g t r
