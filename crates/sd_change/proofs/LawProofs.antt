-- The laws on changes.
use Rattle.std.proofs.Common.{◌≡◌, Bool, true, false, not, ◌||◌, Option, Some, None, ap, refl, sym, ◌∙◌, inl, inr}
use Rattle.std.specs.Prelude.{option_map}
use Rattle.std.specs.Option.{option_map_or}
use Rattle.std.proofs.lemmas.Bool.{cases_Bool, or_parts}
use Rattle.sd_sid.specs.Sid.{SidValue, same_sid}
use Rattle.sd_sid.proofs.Compared.{same_sid-true, same_sid-itself}
use Rattle.sd_acl.specs.declared.descriptor.DaclOf.TheVariants.{Absent, Null, List as Entries}
use Rattle.sd_wire.specs.Reading.{is_set}
use Rattle.sd_whole.specs.declared.ace.WholeAce.{WholeAce}
use Rattle.sd_whole.specs.declared.ace.WholeAce.TheVariants.{Plain, Typed, Opaque}
use Rattle.sd_whole.specs.declared.descriptor.WholeDescriptor.{WholeDescriptor}
use Rattle.sd_whole.specs.Reading.{WholeAcl}
use Rattle.sd_whole_text.specs.declared.no_text.AclKind.{AclKind}
use Rattle.sd_whole_text.specs.declared.no_text.AclKind.TheVariants.{Dacl, Sacl}
use Rattle.sd_change.specs.declared.change.Change.{Change}
use Rattle.sd_change.specs.declared.change.Change.TheVariants.{Replace, Remove, Protect, Unprotect}
use Rattle.sd_change.specs.declared.change.Inherited.{Inherited}
use Rattle.sd_change.specs.declared.change.Inherited.TheVariants.{Kept, Dropped}
use Rattle.sd_change.specs.Change.{acl_after, control_after, descriptor_after, entry_after, is_inherited, sid_after, takes}
use Rattle.sd_change.specs.Occurrence.{acl_has, has_entry_for, is_for, is_trustee, occurs}
use Rattle.sd_change.specs.Laws.{BackUndoesIt, NoEntryIsLeft, NothingIsLeft, Stays}
use Rattle.sd_change.proofs.Kept.{Stands, all_stand, none_left, none_passes, twice}

-- ---- SIDs

-- a SID that isn't the old one stays
other_stays : (old new s : SidValue) → same_sid old s ≡ false → sid_after (Replace old new) s ≡ s
other_stays old new s other = rw other refl

-- a SID that replaces itself
itself : (old new s : SidValue) → same_sid old new ≡ true → sid_after (Replace old new) s ≡ s
itself old new s same = elim (cases_Bool (same_sid old s)) [
  | inl equal ↦ rw equal (sym (same_sid-true old new same) ∙ same_sid-true old s equal)
  | inr other ↦ rw other refl
]

replaced : (old new s : SidValue) → same_sid old new ≡ false → same_sid old (sid_after (Replace old new) s) ≡ false
replaced old new s apart = elim (cases_Bool (same_sid old s)) [
  | inl equal ↦ rw equal apart
  | inr other ↦ rw other other
]

back : (old new s : SidValue) → same_sid new s ≡ false → sid_after (Replace new old) (sid_after (Replace old new) s) ≡ s
back old new s apart = elim (cases_Bool (same_sid old s)) [
  | inl equal ↦ rw equal (rw (same_sid-itself new) (same_sid-true old s equal))
  | inr other ↦ rw other (rw apart refl)
]

-- ---- owners and groups

trustee_stays : (change : Change) (test : SidValue → Bool) → ((s : SidValue) → test s ≡ false → sid_after change s ≡ s)
    → (trustee : Option SidValue) → option_map_or test trustee false ≡ false → option_map (sid_after change) trustee ≡ trustee
trustee_stays change test stays None none = refl
trustee_stays change test stays (Some s) none = ap Some (stays s none)

any_trustee_stays : (change : Change) → ((s : SidValue) → sid_after change s ≡ s) → (trustee : Option SidValue) → option_map (sid_after change) trustee ≡ trustee
any_trustee_stays change stays None = refl
any_trustee_stays change stays (Some s) = ap Some (stays s)

-- ---- entries

abbrev stands : Change → AclKind → WholeAce → Type 0
stands change kind e = Stands (entry_after change kind) (takes change kind) e

replace_stands : (old new : SidValue) (kind : AclKind) (e : WholeAce) → is_for old e ≡ false → stands (Replace old new) kind e
replace_stands old new kind (Plain e) other = record { stays = refl; is = rw other refl }
replace_stands old new kind (Typed e) other = record { stays = refl; is = rw other refl }
replace_stands old new kind (Opaque e) other = record { stays = refl; is = refl }

itself_stands : (old new : SidValue) (kind : AclKind) → same_sid old new ≡ true → (e : WholeAce) → stands (Replace old new) kind e
itself_stands old new kind same (Plain e) = record { stays = refl; is = rw (itself old new e.sid same) refl }
itself_stands old new kind same (Typed e) = record { stays = refl; is = rw (itself old new e.sid same) refl }
itself_stands old new kind same (Opaque e) = record { stays = refl; is = refl }

remove_stands : (sid : SidValue) (kind : AclKind) (e : WholeAce) → is_for sid e ≡ false → stands (Remove sid) kind e
remove_stands sid kind (Plain e) other = record { stays = other; is = refl }
remove_stands sid kind (Typed e) other = record { stays = other; is = refl }
remove_stands sid kind (Opaque e) other = record { stays = other; is = refl }

protect_stands : (inherited : Inherited) (e : WholeAce) → is_inherited e ≡ false → stands (Protect inherited) Dacl e
protect_stands Kept (Plain e) other = record { stays = refl; is = rw other refl }
protect_stands Kept (Typed e) other = record { stays = refl; is = rw other refl }
protect_stands Kept (Opaque e) other = record { stays = refl; is = rw other refl }
protect_stands Dropped (Plain e) other = record { stays = other; is = rw other refl }
protect_stands Dropped (Typed e) other = record { stays = other; is = rw other refl }
protect_stands Dropped (Opaque e) other = record { stays = other; is = rw other refl }

protect_stands_apart : (inherited : Inherited) (e : WholeAce) → stands (Protect inherited) Sacl e
protect_stands_apart Kept (Plain e) = record { stays = refl; is = refl }
protect_stands_apart Kept (Typed e) = record { stays = refl; is = refl }
protect_stands_apart Kept (Opaque e) = record { stays = refl; is = refl }
protect_stands_apart Dropped (Plain e) = record { stays = refl; is = refl }
protect_stands_apart Dropped (Typed e) = record { stays = refl; is = refl }
protect_stands_apart Dropped (Opaque e) = record { stays = refl; is = refl }

unprotect_stands : (kind : AclKind) (e : WholeAce) → stands Unprotect kind e
unprotect_stands kind (Plain e) = record { stays = refl; is = refl }
unprotect_stands kind (Typed e) = record { stays = refl; is = refl }
unprotect_stands kind (Opaque e) = record { stays = refl; is = refl }

-- ---- lists

acl_stands : (change : Change) (kind : AclKind) (test : WholeAce → Bool) → ((e : WholeAce) → test e ≡ false → stands change kind e)
    → (acl : WholeAcl) → acl_has test acl ≡ false → acl_after change kind acl ≡ acl
acl_stands change kind test each Absent none = refl
acl_stands change kind test each Null none = refl
acl_stands change kind test each (Entries list) none =
    ap (λ es. Entries (record list { entries = es })) (all_stand (entry_after change kind) (takes change kind) test each list.entries none)

any_acl_stands : (change : Change) (kind : AclKind) → ((e : WholeAce) → stands change kind e) → (acl : WholeAcl) → acl_after change kind acl ≡ acl
any_acl_stands change kind each Absent = refl
any_acl_stands change kind each Null = refl
any_acl_stands change kind each (Entries list) =
    ap (λ es. Entries (record list { entries = es })) (all_stand (entry_after change kind) (takes change kind) (λ e. false) (λ e other. each e) list.entries (none_passes list.entries))

none_in : (change : Change) (kind : AclKind) (test : WholeAce → Bool) → ((e : WholeAce) → takes change kind e ≡ false → test (entry_after change kind e) ≡ false)
    → (acl : WholeAcl) → acl_has test (acl_after change kind acl) ≡ false
none_in change kind test fails Absent = refl
none_in change kind test fails Null = refl
none_in change kind test fails (Entries list) = none_left (entry_after change kind) (takes change kind) test fails list.entries

-- ---- descriptors

-- a descriptor of which each part stands
whole_stands : (change : Change) (d : WholeDescriptor) → control_after change d.control ≡ d.control
    → option_map (sid_after change) d.owner ≡ d.owner → option_map (sid_after change) d.group ≡ d.group
    → acl_after change Sacl d.sacl ≡ d.sacl → acl_after change Dacl d.dacl ≡ d.dacl → descriptor_after change d ≡ d
whole_stands change d control owner group sacl dacl =
    ap (λ c. record d { control = c; owner = option_map (sid_after change) d.owner; group = option_map (sid_after change) d.group; sacl = acl_after change Sacl d.sacl; dacl = acl_after change Dacl d.dacl }) control
    ∙ ap (λ o. record d { owner = o; group = option_map (sid_after change) d.group; sacl = acl_after change Sacl d.sacl; dacl = acl_after change Dacl d.dacl }) owner
    ∙ ap (λ g. record d { group = g; sacl = acl_after change Sacl d.sacl; dacl = acl_after change Dacl d.dacl }) group
    ∙ ap (λ s. record d { sacl = s; dacl = acl_after change Dacl d.dacl }) sacl
    ∙ ap (λ a. record d { dacl = a }) dacl

is_true : (b : Bool) → not b ≡ false → b ≡ true
is_true true h = refl
is_true false h = absurd cc

replace_stays : (old new : SidValue) (d : WholeDescriptor) → occurs old d ≡ false → descriptor_after (Replace old new) d ≡ d
replace_stays old new d none =
    let parts = or_parts (is_trustee old d.owner || is_trustee old d.group) (has_entry_for old d) none in
    let trustees = or_parts (is_trustee old d.owner) (is_trustee old d.group) parts.0 in
    let lists = or_parts (acl_has (is_for old) d.sacl) (acl_has (is_for old) d.dacl) parts.1 in
    whole_stands (Replace old new) d refl
    (trustee_stays (Replace old new) (same_sid old) (other_stays old new) d.owner trustees.0)
    (trustee_stays (Replace old new) (same_sid old) (other_stays old new) d.group trustees.1)
    (acl_stands (Replace old new) Sacl (is_for old) (replace_stands old new Sacl) d.sacl lists.0)
    (acl_stands (Replace old new) Dacl (is_for old) (replace_stands old new Dacl) d.dacl lists.1)

replace_itself : (old new : SidValue) (d : WholeDescriptor) → same_sid old new ≡ true → descriptor_after (Replace old new) d ≡ d
replace_itself old new d same =
    whole_stands (Replace old new) d refl
    (any_trustee_stays (Replace old new) (λ s. itself old new s same) d.owner)
    (any_trustee_stays (Replace old new) (λ s. itself old new s same) d.group)
    (any_acl_stands (Replace old new) Sacl (itself_stands old new Sacl same) d.sacl)
    (any_acl_stands (Replace old new) Dacl (itself_stands old new Dacl same) d.dacl)

pub stays : Stays
stays (Replace old new) d none = elim (cases_Bool (same_sid old new)) [
  | inl same ↦ replace_itself old new d same
  | inr apart ↦ replace_stays old new d (rw apart at none)
]
stays (Remove sid) d none =
    let lists = or_parts (acl_has (is_for sid) d.sacl) (acl_has (is_for sid) d.dacl) none in
    whole_stands (Remove sid) d refl
    (any_trustee_stays (Remove sid) (λ s. refl) d.owner) (any_trustee_stays (Remove sid) (λ s. refl) d.group)
    (acl_stands (Remove sid) Sacl (is_for sid) (remove_stands sid Sacl) d.sacl lists.0)
    (acl_stands (Remove sid) Dacl (is_for sid) (remove_stands sid Dacl) d.dacl lists.1)
stays (Protect inherited) d none =
    let parts = or_parts (not (is_set 0x1000 d.control)) (acl_has is_inherited d.dacl) none in
    whole_stands (Protect inherited) d (rw (is_true (is_set 0x1000 d.control) parts.0) refl)
    (any_trustee_stays (Protect inherited) (λ s. refl) d.owner) (any_trustee_stays (Protect inherited) (λ s. refl) d.group)
    (any_acl_stands (Protect inherited) Sacl (protect_stands_apart inherited) d.sacl)
    (acl_stands (Protect inherited) Dacl is_inherited (protect_stands inherited) d.dacl parts.1)
stays Unprotect d none =
    whole_stands Unprotect d (rw none refl)
    (any_trustee_stays Unprotect (λ s. refl) d.owner) (any_trustee_stays Unprotect (λ s. refl) d.group)
    (any_acl_stands Unprotect Sacl (unprotect_stands Sacl) d.sacl)
    (any_acl_stands Unprotect Dacl (unprotect_stands Dacl) d.dacl)

-- ---- what is left

none_of_trustee : (old new : SidValue) → same_sid old new ≡ false → (trustee : Option SidValue) → is_trustee old (option_map (sid_after (Replace old new)) trustee) ≡ false
none_of_trustee old new apart None = refl
none_of_trustee old new apart (Some s) = replaced old new s apart

none_of_entry : (old new : SidValue) (kind : AclKind) → same_sid old new ≡ false → (e : WholeAce) → is_for old (entry_after (Replace old new) kind e) ≡ false
none_of_entry old new kind apart (Plain e) = replaced old new e.sid apart
none_of_entry old new kind apart (Typed e) = replaced old new e.sid apart
none_of_entry old new kind apart (Opaque e) = refl

pub nothing_is_left : NothingIsLeft
nothing_is_left old new d apart =
    rw (none_of_trustee old new apart d.owner)
    (rw (none_of_trustee old new apart d.group)
    (rw (none_in (Replace old new) Sacl (is_for old) (λ e left. none_of_entry old new Sacl apart e) d.sacl)
    (none_in (Replace old new) Dacl (is_for old) (λ e left. none_of_entry old new Dacl apart e) d.dacl)))

removed : (sid : SidValue) (kind : AclKind) (e : WholeAce) → takes (Remove sid) kind e ≡ false → is_for sid (entry_after (Remove sid) kind e) ≡ false
removed sid kind (Plain e) left = left
removed sid kind (Typed e) left = left
removed sid kind (Opaque e) left = refl

pub no_entry_is_left : NoEntryIsLeft
no_entry_is_left sid d =
    rw (none_in (Remove sid) Sacl (is_for sid) (removed sid Sacl) d.sacl)
    (none_in (Remove sid) Dacl (is_for sid) (removed sid Dacl) d.dacl)

-- ---- back

trustee_back : (old new : SidValue) (trustee : Option SidValue) → is_trustee new trustee ≡ false
    → option_map (sid_after (Replace new old)) (option_map (sid_after (Replace old new)) trustee) ≡ trustee
trustee_back old new None none = refl
trustee_back old new (Some s) none = ap Some (back old new s none)

entry_back : (old new : SidValue) (kind : AclKind) (e : WholeAce) → is_for new e ≡ false
    → Stands (λ y. entry_after (Replace new old) kind (entry_after (Replace old new) kind y)) (takes (Replace old new) kind) e
entry_back old new kind (Plain e) none = record { stays = refl; is = ap (λ s. Plain (record e { sid = s })) (back old new e.sid none) }
entry_back old new kind (Typed e) none = record { stays = refl; is = ap (λ s. Typed (record e { sid = s })) (back old new e.sid none) }
entry_back old new kind (Opaque e) none = record { stays = refl; is = refl }

acl_back : (old new : SidValue) (kind : AclKind) (acl : WholeAcl) → acl_has (is_for new) acl ≡ false
    → acl_after (Replace new old) kind (acl_after (Replace old new) kind acl) ≡ acl
acl_back old new kind Absent none = refl
acl_back old new kind Null none = refl
acl_back old new kind (Entries list) none =
    ap (λ es. Entries (record list { entries = es }))
    (twice (entry_after (Replace old new) kind) (entry_after (Replace new old) kind) (takes (Replace old new) kind) (takes (Replace new old) kind) (is_for new)
    (entry_back old new kind) (λ e. refl) list.entries none)

pub back_undoes_it : BackUndoesIt
back_undoes_it old new d none =
    let parts = or_parts (is_trustee new d.owner || is_trustee new d.group) (has_entry_for new d) none in
    let trustees = or_parts (is_trustee new d.owner) (is_trustee new d.group) parts.0 in
    let lists = or_parts (acl_has (is_for new) d.sacl) (acl_has (is_for new) d.dacl) parts.1 in
    let again = λ (t : Option SidValue). option_map (sid_after (Replace new old)) (option_map (sid_after (Replace old new)) t) in
    let list_again = λ (kind : AclKind) (a : WholeAcl). acl_after (Replace new old) kind (acl_after (Replace old new) kind a) in
    ap (λ o. record d { owner = o; group = again d.group; sacl = list_again Sacl d.sacl; dacl = list_again Dacl d.dacl }) (trustee_back old new d.owner trustees.0)
    ∙ ap (λ g. record d { group = g; sacl = list_again Sacl d.sacl; dacl = list_again Dacl d.dacl }) (trustee_back old new d.group trustees.1)
    ∙ ap (λ s. record d { sacl = s; dacl = list_again Dacl d.dacl }) (acl_back old new Sacl d.sacl lists.0)
    ∙ ap (λ a. record d { dacl = a }) (acl_back old new Dacl d.dacl lists.1)
