-- A whole DACL for all tokens where conditions depend on who asks ([MS-DTYP] 2.5.3.1.5): an effective entry with a
-- condition becomes one without, for a marker. That is a SID which a token counts as having where it has the SID of the
-- entry and the condition lets the entry apply. Entries that say the same of the same SID have one marker.
use Rattle.std.specs.Prelude.{◌≡◌, ℕ, ◌+◌, ◌/◌, ◌%◌, Bool, true, false, ◌&&◌, ◌||◌, ◌==◌, List, [], ◌∷◌, ◌++◌, map}
use Rattle.std.specs.Prelude.{if◌then◌else◌, Option, Some, None, Result, Ok}
use Rattle.std.specs.Bool.{beq}
use Rattle.std.specs.Borrow.{Bor}
use Rattle.std.specs.List.{AllByRecursion, filter_map, list_any, position_or_len}
use Rattle.std.specs.Option.{option_map_or}
use Rattle.std.specs.Str.{bytes_eq}
use Rattle.sd_sid.specs.Mapping.{MappingValue}
use Rattle.sd_sid.specs.Sid.{SidValue, owner_rights, same_sid}
use Rattle.sd_acl.specs.Descriptor.{DescriptorValue}
use Rattle.sd_acl.specs.declared.ace.Ace.{Ace}
use Rattle.sd_acl.specs.declared.ace.AceKind.{AceKind}
use Rattle.sd_acl.specs.declared.ace.AceKind.TheVariants as plain
use Rattle.sd_acl.specs.declared.descriptor.DaclOf.TheVariants.{Absent, Null, List as Entries}
use Rattle.sd_check.specs.Check.{verdict}
use Rattle.sd_check.specs.Token.{TokenValue, is_restricting, stands_for}
use Rattle.sd_check.specs.declared.grounds.Pass.TheVariants.{First}
use Rattle.sd_check.specs.declared.token.GroupState.{GroupState}
use Rattle.sd_check.specs.declared.token.GroupState.TheVariants.{Enabled}
use Rattle.sd_evaluation.specs.Truth.{applies}
use Rattle.sd_whole.specs.Plain.{plain_ace}
use Rattle.sd_whole.specs.Reading.{WholeAcl}
use Rattle.sd_whole.specs.declared.ace.TypedAce.{TypedAce}
use Rattle.sd_whole.specs.declared.ace.WholeAce.{WholeAce}
use Rattle.sd_whole.specs.declared.ace.WholeAce.TheVariants.{Plain, Typed, Opaque}
use Rattle.sd_whole.specs.declared.descriptor.WholeDescriptor.{WholeDescriptor}
use Rattle.sd_whole.specs.declared.kind.WholeKind.{WholeKind}
use Rattle.sd_whole.specs.declared.kind.WholeKind.TheVariants.{CallbackDeny, CallbackObjectAllow, CallbackObjectDeny}
use Rattle.sd_whole.specs.declared.kind.WholeKind.TheVariants.{ObjectAllow, ObjectDeny}
use Rattle.sd_specialize.specs.Context.{ContextValue}
use Rattle.sd_specialize.specs.Entry.{allows_type, denies_type, entry_for, trustee, without_part}
use Rattle.sd_specialize.specs.Everyone.{conditional_place, is_conditional, unless_conditional}
use Rattle.sd_specialize.specs.Specialize.{descriptor_by, list_by, specialized_list}
use Rattle.sd_specialize.specs.declared.fault.RefusedKind.{RefusedKind}
use Rattle.sd_specialize.specs.declared.fault.SpecializeFault.{SpecializeFault}

-- ---- markers

-- a marker has the authority of which Windows defines no SID, the greatest one (2.4.1.1)
abbrev pub is_marker : SidValue → Bool
is_marker sid = sid.authority == 281474976710655

abbrev pub marker : ℕ → SidValue
marker n = record { authority = 281474976710655; subs = n / 4294967296 ∷ n % 4294967296 ∷ [] }

-- ---- entries with a condition

-- what such an entry decides
abbrev pub is_deny : WholeKind → Bool
is_deny CallbackDeny = true
is_deny CallbackObjectDeny = true
is_deny _ = false

abbrev pub decision_of : TypedAce → AceKind
decision_of e = if is_deny e.kind then plain.Deny else plain.Allow

-- the entry, if it is effective and has a condition
abbrev pub conditional_in : WholeAce → Option TypedAce
conditional_in (Plain e) = None
conditional_in (Typed e) = if is_conditional (Typed e) then Some e else None
conditional_in (Opaque e) = None

abbrev pub conditionals_of : List WholeAce → List TypedAce
conditionals_of es = filter_map conditional_in es

-- of a descriptor's DACL
abbrev pub conditionals : WholeAcl → List TypedAce
conditionals Absent = []
conditionals Null = []
conditionals (Entries list) = conditionals_of list.entries

-- lent ones, as what they are
abbrev pub lent_marks : List (Bor TypedAce) → List TypedAce
lent_marks marks = map (λ (mark : Bor TypedAce). mark.now) marks

-- both allow or both deny the same SID under the same condition
abbrev pub same_mark : TypedAce → TypedAce → Bool
same_mark a b = (beq (is_deny a.kind) (is_deny b.kind) && same_sid a.sid b.sid) && bytes_eq a.trailing b.trailing

-- the entry's marker has the number of the first of these that says the same
abbrev pub mark_place : List TypedAce → TypedAce → ℕ
mark_place marks e = position_or_len (same_mark e) marks

-- ---- the list

-- an entry for an object type is for what is asked about
abbrev pub is_of_types : WholeKind → ContextValue → TypedAce → Bool
is_of_types ObjectAllow c e = allows_type c.chain e.types.object
is_of_types ObjectDeny c e = denies_type c.chain e.types.object
is_of_types CallbackObjectAllow c e = allows_type c.chain e.types.object
is_of_types CallbackObjectDeny c e = denies_type c.chain e.types.object
is_of_types _ c e = true

abbrev pub marked_for : ContextValue → List TypedAce → TypedAce → Ace
marked_for c marks e =
    if is_of_types e.kind c e
    then plain_ace (decision_of e) e.flags.0 e.mask (marker (mark_place marks e))
    else without_part c e.flags.0 e.sid

abbrev pub marked_or : ContextValue → List TypedAce → WholeAce → Option TypedAce → Result Ace RefusedKind
marked_or c marks e None = entry_for c e
marked_or c marks e (Some conditional) = Ok (marked_for c marks conditional)

-- what an entry is for all tokens: any other is what it is for the question
abbrev pub marked_entry : ContextValue → List TypedAce → WholeAce → Result Ace RefusedKind
marked_entry c marks e = marked_or c marks e (conditional_in e)

abbrev pub marked_list : ContextValue → List TypedAce → List WholeAce → Result (List Ace) SpecializeFault
marked_list c marks = list_by (marked_entry c marks)

-- ---- where no marker can stand for a condition

-- the entry is for a SID that is a marker; or it limits the owner, whatever its condition comes to
abbrev pub hinders : ContextValue → WholeAce → Bool
hinders c (Plain e) = is_marker (trustee c e.sid)
hinders c (Typed e) = is_marker (trustee c e.sid)
    || (is_conditional (Typed e) && same_sid (trustee c e.sid) owner_rights)
hinders c (Opaque e) = false

abbrev pub hindered_by : ContextValue → WholeAcl → Bool
hindered_by c Absent = false
hindered_by c Null = false
hindered_by c (Entries list) = list_any (hinders c) list.entries

-- so is the owner
abbrev pub is_hindered : ContextValue → WholeDescriptor → Bool
is_hindered c d = option_map_or is_marker d.owner false || hindered_by c d.dacl

-- the first entry of a descriptor with a condition, if beside the other descriptor no marker can stand for it
abbrev pub unmarked_place : ContextValue → (other d : WholeDescriptor) → Option ℕ
unmarked_place c other d = if is_hindered c other then conditional_place d.dacl else None

-- what the descriptor is for all tokens, by these markers; or the first entry with a condition is refused
abbrev pub marked : ContextValue → List TypedAce → WholeDescriptor → Result DescriptorValue SpecializeFault
marked c marks d = unless_conditional (unmarked_place c d d) (descriptor_by (marked_entry c marks) d)

-- ---- what markers say of a token

-- the condition lets the entry apply
abbrev pub lets_apply : ContextValue → TypedAce → Bool
lets_apply c e = applies (c.truth First (decision_of e) e.trailing) (decision_of e)

-- the token has the entry's SID, and the condition lets the entry apply; and so for the second pass of a restricted one
abbrev pub stands : ContextValue → TokenValue → TypedAce → Bool
stands c t e = stands_for t (decision_of e) (trustee c e.sid) && lets_apply c e

abbrev pub restricts : ContextValue → TokenValue → TypedAce → Bool
restricts c t e = is_restricting t (trustee c e.sid) && lets_apply c e

-- the markers, from this number on, whose entries pass the test
abbrev pub markers_where : (TypedAce → Bool) → ℕ → List TypedAce → List SidValue
markers_where test n [] = []
markers_where test n (e ∷ es) =
    if test e then marker n ∷ markers_where test (n + 1) es else markers_where test (n + 1) es

abbrev pub as_group : SidValue → SidValue × GroupState
as_group sid = (sid, Enabled)

-- the token with the markers that it counts as having
abbrev pub with_markers : ContextValue → List TypedAce → TokenValue → TokenValue
with_markers c marks t = record t {
  groups = t.groups ++ map as_group (markers_where (stands c t) 0 marks);
  restricting = t.restricting ++ markers_where (restricts c t) 0 marks;
}

-- the token has no marker of its own
pub record HasNoMarker (t : TokenValue) : Type 0 where
  pub user : is_marker t.user ≡ false
  pub groups : list_any (λ (group : SidValue × GroupState). is_marker group.0) t.groups ≡ false
  pub restricting : list_any is_marker t.restricting ≡ false

-- the entry, if it has a condition, has a marker of these; and so has each of a list
abbrev pub is_marked : List TypedAce → WholeAce → Bool
is_marked marks e = option_map_or (λ (one : TypedAce). list_any (same_mark one) marks) (conditional_in e) true

abbrev pub HaveMarkers : List TypedAce → List WholeAce → Type 0
HaveMarkers marks es = AllByRecursion (λ e. is_marked marks e ≡ true) es

-- the list with markers gives each token, with the markers that it counts as having, the verdict that the whole list
-- gives it
abbrev pub MarkersStand : Type 0
MarkersStand =
    (c : ContextValue) (marks : List TypedAce) (es : List WholeAce) (plain with : List Ace)
    → HaveMarkers marks es → list_any (hinders c) es ≡ false
    → specialized_list c es ≡ Ok plain → marked_list c marks es ≡ Ok with
    → (owner : Option SidValue) → option_map_or is_marker owner false ≡ false
    → (t : TokenValue) → HasNoMarker t → (g : MappingValue) (r : ℕ)
    → verdict owner (Some plain) g t r ≡ verdict owner (Some with) g (with_markers c marks t) r

-- each entry with a condition has a marker of those of its list, whatever others there are
abbrev pub AllAreMarked : Type 0
AllAreMarked = (before after : List TypedAce) (es : List WholeAce)
    → HaveMarkers (before ++ (conditionals_of es ++ after)) es

-- more marks behind those of its conditional entries, whatever is before them, change nothing of what a descriptor is
abbrev pub LaterMarksChangeNothing : Type 0
LaterMarksChangeNothing = (c : ContextValue) (before after : List TypedAce) (d : WholeDescriptor)
    → marked c (before ++ (conditionals d.dacl ++ after)) d ≡ marked c (before ++ conditionals d.dacl) d
