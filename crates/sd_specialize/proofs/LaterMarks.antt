-- More marks behind those of a list change nothing of what it is by markers.
use Rattle.std.proofs.Common.{◌≡◌, ℕ, ◌+◌, ◌++◌, ◌∷◌, [], List, true, ◌||◌, not, cond, Ok, Option, Some, None, Result, ap, append-nil, append_assoc, inl, inr, refl, subst, sym, ◌∙◌}
use Rattle.std.proofs.lemmas.Bool.{cases_Bool, false≢true}
use Rattle.std.specs.List.{list_any}
use Rattle.std.specs.Option.{option_map_or}
use Rattle.std.specs.Prelude.{if◌then◌else◌}
use Rattle.sd_acl.specs.Dacl.{Dacl}
use Rattle.sd_acl.specs.declared.descriptor.DaclOf.TheVariants.{Absent, Null, List as Entries}
use Rattle.sd_whole.specs.Plain.{plain_ace, with_dacl}
use Rattle.sd_whole.specs.Reading.{WholeAcl}
use Rattle.sd_whole.specs.declared.ace.TypedAce.{TypedAce}
use Rattle.sd_whole.specs.declared.ace.WholeAce.{WholeAce}
use Rattle.sd_specialize.proofs.Markers.{all_are_marked}
use Rattle.sd_specialize.specs.Context.{ContextValue}
use Rattle.sd_specialize.specs.Entry.{without_part}
use Rattle.sd_specialize.specs.Everyone.{unless_conditional}
use Rattle.sd_specialize.specs.Marked.{HaveMarkers, LaterMarksChangeNothing, conditional_in, conditionals, conditionals_of, decision_of, is_of_types, mark_place, marked_entry, marked_for, marked_or, marker, same_mark, unmarked_place}
use Rattle.sd_specialize.specs.Specialize.{acl_by, entries_by, fitting, numbered, ◌>>=◌}
use Rattle.sd_specialize.specs.declared.fault.SpecializeFault.{SpecializeFault}

-- the first of the marks is the first of more
still_first : (e : TypedAce) (marks after : List TypedAce) → list_any (same_mark e) marks ≡ true → mark_place (marks ++ after) e ≡ mark_place marks e
still_first e [] after among = absurd (false≢true among)
still_first e (m ∷ marks) after among = elim (cases_Bool (same_mark e m)) [
  | inl is ↦ ap (λ b. cond (not b) (1 + mark_place (marks ++ after) e) 0) is ∙ sym (ap (λ b. cond (not b) (1 + mark_place marks e) 0) is)
  | inr isnt ↦ ap (λ n. cond (not (same_mark e m)) (1 + n) 0) (still_first e marks after (ap (λ b. b || list_any (same_mark e) marks) (sym isnt) ∙ among))
]

module _ (c : ContextValue) (marks after : List TypedAce) where
  same_for : (e : TypedAce) → list_any (same_mark e) marks ≡ true → marked_for c (marks ++ after) e ≡ marked_for c marks e
  same_for e among = ap (λ n. if is_of_types e.kind c e then plain_ace (decision_of e) e.flags.0 e.mask (marker n) else without_part c e.flags.0 e.sid) (still_first e marks after among)

  same_or : (e : WholeAce) (found : Option TypedAce) → option_map_or (λ (one : TypedAce). list_any (same_mark one) marks) found true ≡ true
      → marked_or c (marks ++ after) e found ≡ marked_or c marks e found
  same_or e None has = refl
  same_or e (Some one) has = ap Ok (same_for one has)

  same_entries : (n : ℕ) (es : List WholeAce) → HaveMarkers marks es → entries_by (marked_entry c (marks ++ after)) n es ≡ entries_by (marked_entry c marks) n es
  same_entries n [] have = refl
  same_entries n (e ∷ es) have =
      ap (λ one. numbered n one >>= λ first. (entries_by (marked_entry c (marks ++ after)) (n + 1) es >>= λ others. Ok (first ∷ others))) (same_or e (conditional_in e) have.0)
      ∙ ap (λ more. numbered n (marked_entry c marks e) >>= λ first. (more >>= λ others. Ok (first ∷ others))) (same_entries (n + 1) es have.1)

have_own : (before : List TypedAce) (es : List WholeAce) → HaveMarkers (before ++ conditionals_of es) es
have_own before es = subst (λ (own : List TypedAce). HaveMarkers (before ++ own) es) (append-nil (conditionals_of es)) (all_are_marked before [] es)

acl_alike : (c : ContextValue) (before after : List TypedAce) (acl : WholeAcl)
    → acl_by (marked_entry c (before ++ (conditionals acl ++ after))) acl ≡ acl_by (marked_entry c (before ++ conditionals acl)) acl
acl_alike c before after Absent = refl
acl_alike c before after Null = refl
acl_alike c before after (Entries list) =
    ap (λ (marks : List TypedAce). acl_by (marked_entry c marks) (Entries list)) (sym (append_assoc before (conditionals_of list.entries) after))
    ∙ ap (λ found. (found >>= fitting) >>= λ es. Ok (Entries es)) (same_entries c (before ++ conditionals_of list.entries) after 1 list.entries (have_own before list.entries))

pub later_marks_change_nothing : LaterMarksChangeNothing
later_marks_change_nothing c before after d =
    ap (λ (found : Result Dacl SpecializeFault). unless_conditional (unmarked_place c d d) (found >>= λ dacl. Ok (with_dacl d dacl))) (acl_alike c before after d.dacl)
