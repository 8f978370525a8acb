-- Where no effective entry has an ObjectType, the plain descriptor is the same for all object types; and where two have one
-- owner and one list, so have their plain ones.
use Rattle.sd_commands.proofs.Cited.{Bool, List, None, Option, Some, [], and-true, ap, ap₂, arith, false, if◌then◌else◌, inl, inr, list_any, map, not, option_map_or, refl, sym, true, ℕ, ◌&&◌, ◌++◌, ◌+◌, ◌∙◌, ◌∷◌, ◌≡◌, ◌||◌}
use Rattle.std.proofs.lemmas.Bool.{cases_Bool}
use Rattle.std.specs.Prelude.{Err, Ok, Result, is_some}
use Rattle.std.specs.Bool.{beq}
use Rattle.sd_acl.specs.Dacl.{Dacl}
use Rattle.sd_acl.specs.Descriptor.{DescriptorValue}
use Rattle.sd_acl.specs.declared.ace.Ace.{Ace}
use Rattle.sd_acl.specs.declared.ace.AceKind.{AceKind}
use Rattle.sd_acl.specs.declared.descriptor.DaclOf.TheVariants.{Absent, Null, List as Entries}
use Rattle.sd_check.specs.declared.grounds.Pass.{Pass}
use Rattle.sd_check.specs.declared.grounds.Pass.TheVariants.{First, Second}
use Rattle.sd_whole.specs.Entry.{for_children_alone}
use Rattle.sd_whole.specs.Kind.{plain_kind}
use Rattle.sd_whole.specs.Plain.{plain_ace, with_dacl}
use Rattle.sd_whole.specs.Reading.{WholeAcl}
use Rattle.sd_whole.specs.declared.ace.TypedAce.{TypedAce}
use Rattle.sd_whole.specs.declared.ace.WholeAce.{WholeAce}
use Rattle.sd_whole.specs.declared.ace.WholeAce.TheVariants.{Plain, Typed, Opaque}
use Rattle.sd_whole.specs.declared.descriptor.WholeDescriptor.{WholeDescriptor}
use Rattle.sd_whole.specs.declared.kind.WholeKind.{WholeKind}
use Rattle.sd_whole.specs.declared.kind.WholeKind.TheVariants as kinds
use Rattle.sd_whole.specs.declared.types.Guid.{Guid}
use Rattle.sd_specialize.specs.Children.{handed_entry, handed_sid, handed_typed, is_of_class, no_right}
use Rattle.sd_specialize.specs.Context.{ContextValue}
use Rattle.sd_specialize.specs.Entry.{allows_by_condition, allows_type, applies_as, deciding_for, decides, denies_by_condition, denies_type, effective_for, entry_for, nobody, plain_for, typed_for, without_part}
use Rattle.sd_specialize.proofs.LaterMarks.{later_marks_change_nothing}
use Rattle.sd_specialize.specs.Everyone.{conditional_place, has_condition, is_conditional, unless_conditional}
use Rattle.sd_specialize.specs.Laws.{asking}
use Rattle.sd_specialize.specs.Marked.{conditionals, decision_of, hindered_by, hinders, is_marker, is_of_types, mark_place, marked, marked_entry, marked_for, marker, unmarked_place}
use Rattle.sd_specialize.specs.Specialize.{acl_by, descriptor_by, entries_by, fitting, numbered, ◌>>=◌}
use Rattle.sd_specialize.specs.declared.fault.RefusedKind.{RefusedKind}
use Rattle.sd_specialize.specs.declared.fault.RefusedKind.TheVariants.{PassesDiffer}
use Rattle.sd_specialize.specs.declared.fault.SpecializeFault.{SpecializeFault}
use Rattle.sd_commands.specs.ObjectTypes.{OneListForAllTypes, TypesChangeNoChild, TypesChangeNothing, has_types, is_for_type}

-- ---- an entry without an ObjectType

allow_alike : (chain other : List Guid) (o : Option Guid) → is_some o ≡ false → allows_type other o ≡ allows_type chain o
allow_alike chain other None none = refl
allow_alike chain other (Some type) none = absurd cc

deny_alike : (chain other : List Guid) (o : Option Guid) → is_some o ≡ false → denies_type other o ≡ denies_type chain o
deny_alike chain other None none = refl
deny_alike chain other (Some type) none = absurd cc

module _ (c : ContextValue) (other : List Guid) (e : TypedAce) where
  applies_alike : (kind : WholeKind) (pass : Pass) → is_some e.types.object ≡ false
      → applies_as kind (asking c other) pass e ≡ applies_as kind c pass e
  applies_alike kinds.ObjectAllow pass none = allow_alike c.chain other e.types.object none
  applies_alike kinds.ObjectDeny pass none = deny_alike c.chain other e.types.object none
  applies_alike kinds.CallbackObjectAllow pass none =
      ap (λ here. here && allows_by_condition c pass e) (allow_alike c.chain other e.types.object none)
  applies_alike kinds.CallbackObjectDeny pass none =
      ap (λ here. here && denies_by_condition c pass e) (deny_alike c.chain other e.types.object none)
  applies_alike _ pass none = refl

  deciding_alike : (kind : AceKind) → is_some e.types.object ≡ false → deciding_for (asking c other) kind e ≡ deciding_for c kind e
  deciding_alike kind none = ap₂
      (λ (first second : Bool). if not (not c.is_restricted || beq second first) then Err PassesDiffer
      else if first then Ok (plain_for c kind e.flags.0 e.mask e.sid) else Ok (without_part c e.flags.0 e.sid))
      (applies_alike e.kind First none) (applies_alike e.kind Second none)

  effective_alike : (k : Option AceKind) → is_some e.types.object ≡ false → effective_for k (asking c other) e ≡ effective_for k c e
  effective_alike None none = refl
  effective_alike (Some kind) none = deciding_alike kind none

-- ---- an entry

unless_inherit_only : (inherit_only typed : Bool) (x a b : Result Ace RefusedKind) → (typed && not inherit_only) ≡ false
    → (typed ≡ false → a ≡ b) → (if inherit_only then x else a) ≡ (if inherit_only then x else b)
unless_inherit_only true typed x a b none same = refl
unless_inherit_only false false x a b none same = same refl
unless_inherit_only false true x a b none same = absurd cc

typed_alike : (c : ContextValue) (other : List Guid) (e : TypedAce) (k : Option AceKind) → is_for_type false (Typed e) ≡ false
    → typed_for k (asking c other) e ≡ typed_for k c e
typed_alike c other e None none =
    unless_inherit_only (for_children_alone e.flags.0) (is_some e.types.object) _ _ _ none (effective_alike c other e (decides e.kind))
typed_alike c other e (Some kind) none = refl

entry_alike : (c : ContextValue) (other : List Guid) (e : WholeAce) → is_for_type false e ≡ false → entry_for (asking c other) e ≡ entry_for c e
entry_alike c other (Plain e) none = refl
entry_alike c other (Typed e) none = typed_alike c other e (plain_kind e.kind) none
entry_alike c other (Opaque e) none = refl

-- ---- an entry by markers

none_here : (here later : Bool) → (here || later) ≡ false → here ≡ false
none_here here later h = grind (arith, h)

none_later : (here later : Bool) → (here || later) ≡ false → later ≡ false
none_later here later h = grind (arith, h)

no_type : (has alone typed : Bool) → (has && not alone) ≡ true → (typed && not alone) ≡ false → typed ≡ false
no_type has alone typed is none = grind (arith, is, none)

module _ (c : ContextValue) (other : List Guid) (marks : List TypedAce) where
  of_types_alike : (kind : WholeKind) (e : TypedAce) → is_some e.types.object ≡ false → is_of_types kind (asking c other) e ≡ is_of_types kind c e
  of_types_alike kinds.ObjectAllow e none = allow_alike c.chain other e.types.object none
  of_types_alike kinds.ObjectDeny e none = deny_alike c.chain other e.types.object none
  of_types_alike kinds.CallbackObjectAllow e none = allow_alike c.chain other e.types.object none
  of_types_alike kinds.CallbackObjectDeny e none = deny_alike c.chain other e.types.object none
  of_types_alike _ e none = refl

  marked_for_alike : (e : TypedAce) → is_some e.types.object ≡ false → marked_for (asking c other) marks e ≡ marked_for c marks e
  marked_for_alike e none = ap
      (λ types. if types then plain_ace (decision_of e) e.flags.0 e.mask (marker (mark_place marks e)) else without_part c e.flags.0 e.sid)
      (of_types_alike e.kind e none)

  marked_alike : (e : WholeAce) → is_for_type false e ≡ false → marked_entry (asking c other) marks e ≡ marked_entry c marks e
  marked_alike (Plain e) none = refl
  marked_alike (Typed e) none = elim (cases_Bool (is_conditional (Typed e))) [
    | inl is ↦ rw is (ap Ok (marked_for_alike e (no_type (has_condition e.kind) (for_children_alone e.flags.0) (is_some e.types.object) is none)))
    | inr isnt ↦ rw isnt (entry_alike c other (Typed e) none)
  ]
  marked_alike (Opaque e) none = refl

  -- ---- a list

  entries_alike : (n : ℕ) (es : List WholeAce) → list_any (is_for_type false) es ≡ false
      → entries_by (marked_entry (asking c other) marks) n es ≡ entries_by (marked_entry c marks) n es
  entries_alike n [] none = refl
  entries_alike n (e ∷ es) none = ap₂
      (λ one more. numbered n one >>= λ first. (more >>= λ others. Ok (first ∷ others)))
      (marked_alike e (none_here (is_for_type false e) (list_any (is_for_type false) es) none))
      (entries_alike (n + 1) es (none_later (is_for_type false e) (list_any (is_for_type false) es) none))

  acl_alike : (acl : WholeAcl) → has_types false acl ≡ false → acl_by (marked_entry (asking c other) marks) acl ≡ acl_by (marked_entry c marks) acl
  acl_alike Absent none = refl
  acl_alike Null none = refl
  acl_alike (Entries list) none =
      ap (λ found. (found >>= fitting) >>= λ es. Ok (Entries es)) (entries_alike 1 list.entries none)

  hinders_entry : (e : WholeAce) → hinders (asking c other) e ≡ hinders c e
  hinders_entry (Plain e) = refl
  hinders_entry (Typed e) = refl
  hinders_entry (Opaque e) = refl

  hinders_alike : hinders (asking c other) ≡ hinders c
  hinders_alike = λ i e. hinders_entry e i

  hindered_alike : (acl : WholeAcl) → hindered_by (asking c other) acl ≡ hindered_by c acl
  hindered_alike Absent = refl
  hindered_alike Null = refl
  hindered_alike (Entries list) = ap (λ test. list_any test list.entries) hinders_alike

pub types_change_nothing : TypesChangeNothing
types_change_nothing c other marks d none =
    ap (λ b. unless_conditional (if option_map_or is_marker d.owner false || b then conditional_place d.dacl else None) (descriptor_by (marked_entry (asking c other) marks) d))
    (hindered_alike c other marks d.dacl)
    ∙ ap (λ found. unless_conditional (unmarked_place c d d) (found >>= λ dacl. Ok (with_dacl d dacl))) (acl_alike c other marks d.dacl none)

-- ---- what children inherit

module _ (class : Option Guid) (c : ContextValue) (other : List Guid) (marks : List TypedAce) where
  handed_typed_alike : (k : Option AceKind) (e : TypedAce) → is_some e.types.object ≡ false → handed_typed k (asking c other) marks e ≡ handed_typed k c marks e
  handed_typed_alike None e none = refl
  handed_typed_alike (Some kind) e none = ap
      (λ types. if types then plain_ace kind e.flags.0 e.mask (handed_sid marks e) else no_right e.flags.0 e.sid)
      (of_types_alike c other marks e.kind e none)

  handed_alike : (e : WholeAce) → is_for_type true e ≡ false → handed_entry class (asking c other) marks e ≡ handed_entry class c marks e
  handed_alike (Plain e) none = refl
  handed_alike (Typed e) none = ap (λ one. if is_of_class class e.types then one else no_right e.flags.0 nobody)
      (handed_typed_alike (decides e.kind) e (sym (and-true (is_some e.types.object)) ∙ none))
  handed_alike (Opaque e) none = refl

  all_handed_alike : (es : List WholeAce) → list_any (is_for_type true) es ≡ false
      → map (handed_entry class (asking c other) marks) es ≡ map (handed_entry class c marks) es
  all_handed_alike [] none = refl
  all_handed_alike (e ∷ es) none = ap₂ (λ one more. one ∷ more)
      (handed_alike e (none_here (is_for_type true e) (list_any (is_for_type true) es) none))
      (all_handed_alike es (none_later (is_for_type true e) (list_any (is_for_type true) es) none))

pub types_change_no_child : TypesChangeNoChild
types_change_no_child class c other marks Absent none = refl
types_change_no_child class c other marks Null none = refl
types_change_no_child class c other marks (Entries list) none = all_handed_alike class c other marks list.entries none

-- ---- one owner and one list

-- a plain descriptor has the owner, and the list that was found
found_parts : (place : Option ℕ) (found : Result Dacl SpecializeFault) (d : WholeDescriptor) (plain : DescriptorValue)
    → unless_conditional place (found >>= λ dacl. Ok (with_dacl d dacl)) ≡ Ok plain → (plain.owner ≡ d.owner) × (found ≡ Ok plain.dacl)
found_parts None (Ok dacl) d plain is =
    let same : with_dacl d dacl ≡ plain = cc in
    (sym (ap (λ (x : DescriptorValue). x.owner) same), ap Ok (ap (λ (x : DescriptorValue). x.dacl) same))
found_parts None (Err fault) d plain is = absurd cc
found_parts (Some place) found d plain is = absurd cc

pub one_list_for_all_types : OneListForAllTypes
one_list_for_all_types c old new plain_old plain_new owner dacl is_old is_new =
    let one_mark : marked c (conditionals old.dacl ++ conditionals new.dacl) new ≡ marked c (conditionals new.dacl) new =
    ap (λ acl. marked c (conditionals acl ++ conditionals new.dacl) new) dacl ∙ later_marks_change_nothing c [] (conditionals new.dacl) new in
    let of_old = found_parts (unmarked_place c old old) (acl_by (marked_entry c (conditionals old.dacl)) old.dacl) old plain_old is_old in
    let of_new = found_parts (unmarked_place c new new) (acl_by (marked_entry c (conditionals new.dacl)) new.dacl) new plain_new (sym one_mark ∙ is_new) in
    let one_list : Ok plain_old.dacl ≡ Ok plain_new.dacl =
    sym of_old.1 ∙ ap (λ acl. acl_by (marked_entry c (conditionals acl)) acl) dacl ∙ of_new.1 in
    (of_old.0 ∙ owner ∙ sym of_new.0, cc)
