-- An entry without a condition is the same for each question about the same object types, and so is what a descriptor is
-- by markers.
use Rattle.std.proofs.Common.{◌≡◌, ℕ, List, Bool, true, false, not, ◌||◌, ◌&&◌, Option, Some, None, Ok, ap, inl, inr, refl, ◌∙◌}
use Rattle.std.proofs.lemmas.Bool.{cases_Bool}
use Rattle.std.specs.Prelude.{if◌then◌else◌}
use Rattle.std.specs.Bool.{beq}
use Rattle.std.specs.List.{list_any}
use Rattle.std.specs.Option.{option_map_or}
use Rattle.sd_acl.specs.declared.ace.AceKind.{AceKind}
use Rattle.sd_acl.specs.declared.ace.AceKind.TheVariants.{Allow}
use Rattle.sd_acl.specs.declared.descriptor.DaclOf.TheVariants.{Absent, Null, List as Entries}
use Rattle.sd_sid.specs.Sid.{SidValue}
use Rattle.sd_whole.specs.Entry.{for_children_alone}
use Rattle.sd_whole.specs.declared.ace.TypedAce.{TypedAce}
use Rattle.sd_whole.specs.declared.ace.WholeAce.{WholeAce}
use Rattle.sd_whole.specs.declared.ace.WholeAce.TheVariants.{Plain, Typed, Opaque}
use Rattle.sd_whole.specs.declared.descriptor.WholeDescriptor.{WholeDescriptor}
use Rattle.sd_whole.specs.declared.kind.WholeKind.{WholeKind}
use Rattle.sd_whole.specs.declared.kind.WholeKind.TheVariants as kinds
use Rattle.sd_whole.specs.Kind.{plain_kind}
use Rattle.sd_whole.specs.Reading.{WholeAcl}
use Rattle.sd_specialize.specs.Context.{ContextValue}
use Rattle.sd_specialize.specs.Entry.{decides, effective_for, entry_for, plain_for, typed_for, without_part}
use Rattle.sd_specialize.specs.Everyone.{conditional_place, has_condition, is_conditional, unless_conditional}
use Rattle.sd_specialize.specs.Marked.{conditional_in, hindered_by, hinders, is_marker, marked, marked_entry, marked_for, marked_or, unmarked_place}
use Rattle.sd_specialize.specs.Specialize.{descriptor_by}

agree : (restricted applies : Bool) → (not restricted || beq applies applies) ≡ true
agree true true = refl
agree true false = refl
agree false true = refl
agree false false = refl

module _ (c k : ContextValue) (types : c.chain ≡ k.chain) (self : c.principal_self ≡ k.principal_self) where
  plain_alike : (kind : AceKind) (flags mask : ℕ) (sid : SidValue) → plain_for c kind flags mask sid ≡ plain_for k kind flags mask sid
  plain_alike kind flags mask sid = rw self refl

  -- an entry whose type has no condition
  effective_alike : (kind : WholeKind) (e : TypedAce) → e.kind ≡ kind → has_condition kind ≡ false
      → effective_for (decides kind) c e ≡ effective_for (decides kind) k e
  effective_alike kinds.Allow e is h = rw (is, self, agree c.is_restricted true, agree k.is_restricted true) refl
  effective_alike kinds.Deny e is h = rw (is, self, agree c.is_restricted true, agree k.is_restricted true) refl
  effective_alike kinds.ObjectAllow e is h = rw (is, types, self, agree c.is_restricted _, agree k.is_restricted _) refl
  effective_alike kinds.ObjectDeny e is h = rw (is, types, self, agree c.is_restricted _, agree k.is_restricted _) refl
  effective_alike kinds.CallbackAllow e is h = absurd cc
  effective_alike kinds.CallbackDeny e is h = absurd cc
  effective_alike kinds.CallbackObjectAllow e is h = absurd cc
  effective_alike kinds.CallbackObjectDeny e is h = absurd cc
  effective_alike _ e is h = refl

  other_alike : (inherit_only : Bool) (e : TypedAce)
      → (inherit_only ≡ false → effective_for (decides e.kind) c e ≡ effective_for (decides e.kind) k e)
      → (if inherit_only then Ok (without_part c e.flags.0 e.sid) else effective_for (decides e.kind) c e)
      ≡ (if inherit_only then Ok (without_part k e.flags.0 e.sid) else effective_for (decides e.kind) k e)
  other_alike true e same = ap Ok (plain_alike Allow e.flags.0 0 e.sid)
  other_alike false e same = same refl

  typed_alike : (plain : Option AceKind) (e : TypedAce)
      → (for_children_alone e.flags.0 ≡ false → effective_for (decides e.kind) c e ≡ effective_for (decides e.kind) k e)
      → typed_for plain c e ≡ typed_for plain k e
  typed_alike None e same = other_alike (for_children_alone e.flags.0) e same
  typed_alike (Some kind) e same = ap Ok (plain_alike kind e.flags.0 e.mask e.sid)

-- ---- where no effective entry has a condition

effective_asks_nothing : (has inherit_only : Bool) → (has && not inherit_only) ≡ false → inherit_only ≡ false → has ≡ false
effective_asks_nothing true true none effective = absurd cc
effective_asks_nothing true false none effective = absurd cc
effective_asks_nothing false inherit_only none effective = refl

module _ (c k : ContextValue) (types : c.chain ≡ k.chain) (self : c.principal_self ≡ k.principal_self) where
  unconditional_alike : (e : WholeAce) → is_conditional e ≡ false → entry_for c e ≡ entry_for k e
  unconditional_alike (Plain e) none = ap Ok (plain_alike c k types self e.kind e.flags.0 e.mask e.sid)
  unconditional_alike (Typed e) none =
      typed_alike c k types self (plain_kind e.kind) e (λ effective. effective_alike c k types self e.kind e refl
      (effective_asks_nothing (has_condition e.kind) (for_children_alone e.flags.0) none effective))
  unconditional_alike (Opaque e) none = refl

  marked_for_alike : (marks : List TypedAce) (kind : WholeKind) (e : TypedAce) → e.kind ≡ kind → marked_for c marks e ≡ marked_for k marks e
  marked_for_alike marks kinds.ObjectAllow e is = rw (is, types, self) refl
  marked_for_alike marks kinds.ObjectDeny e is = rw (is, types, self) refl
  marked_for_alike marks kinds.CallbackObjectAllow e is = rw (is, types, self) refl
  marked_for_alike marks kinds.CallbackObjectDeny e is = rw (is, types, self) refl
  marked_for_alike marks _ e is = rw is refl

  marked_or_alike : (marks : List TypedAce) (e : WholeAce) (found : Option TypedAce) → (found ≡ None → is_conditional e ≡ false)
      → marked_or c marks e found ≡ marked_or k marks e found
  marked_or_alike marks e None none = unconditional_alike e (none refl)
  marked_or_alike marks e (Some one) none = ap Ok (marked_for_alike marks one.kind one refl)

  not_conditional : (e : WholeAce) → conditional_in e ≡ None → is_conditional e ≡ false
  not_conditional (Plain e) none = refl
  not_conditional (Typed e) none = elim (cases_Bool (is_conditional (Typed e))) [
    | inl is ↦ absurd (let found = rw is at none in cc)
    | inr isnt ↦ isnt
  ]
  not_conditional (Opaque e) none = refl

  rule_alike : (marks : List TypedAce) → marked_entry c marks ≡ marked_entry k marks
  rule_alike marks = λ i e. marked_or_alike marks e (conditional_in e) (not_conditional e) i

  hinders_entry : (e : WholeAce) → hinders c e ≡ hinders k e
  hinders_entry (Plain e) = rw self refl
  hinders_entry (Typed e) = rw self refl
  hinders_entry (Opaque e) = refl

  hinders_alike : hinders c ≡ hinders k
  hinders_alike = λ i e. hinders_entry e i

  hindered_alike : (acl : WholeAcl) → hindered_by c acl ≡ hindered_by k acl
  hindered_alike Absent = refl
  hindered_alike Null = refl
  hindered_alike (Entries list) = ap (λ test. list_any test list.entries) hinders_alike

  pub marked_alike : (marks : List TypedAce) (d : WholeDescriptor) → marked c marks d ≡ marked k marks d
  marked_alike marks d =
      ap (λ b. unless_conditional (if option_map_or is_marker d.owner false || b then conditional_place d.dacl else None) (descriptor_by (marked_entry c marks) d)) (hindered_alike d.dacl)
      ∙ ap (λ rule. unless_conditional (unmarked_place k d d) (descriptor_by rule d)) (rule_alike marks)
