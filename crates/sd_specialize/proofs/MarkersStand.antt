-- The list with markers grants each token with its markers what the whole list grants it.
use Rattle.std.proofs.Common.{◌≡◌, ℕ, ◌+◌, ◌∷◌, [], List, Bool, true, false, not, ◌&&◌, cond, nat_lt, Option, Some, None, Ok, ap, arith, inl, inr, refl, subst, sym, ◌∙◌}
use Rattle.std.specs.Prelude.{if◌then◌else◌}
use Rattle.std.proofs.lemmas.Bool.{and_parts, cases_Bool, false≢true}
use Rattle.std.proofs.Math.Bool.{and-false, and-true}
use Rattle.std.specs.List.{list_any}
use Rattle.std.specs.Option.{option_map_or}
use Rattle.sd_acl.specs.Ace.{is_allow}
use Rattle.sd_acl.specs.declared.ace.Ace.{Ace}
use Rattle.sd_acl.specs.declared.ace.AceKind.{AceKind}
use Rattle.sd_acl.specs.declared.ace.AceKind.TheVariants.{Allow, Deny}
use Rattle.sd_check.proofs.LawProofs.{one_test}
use Rattle.sd_check.specs.Check.{applies, applies_again, decides, first, is_allowed_by, is_granted, is_limit, judged, limits_owner, verdict}
use Rattle.sd_check.specs.Token.{TokenValue}
use Rattle.sd_check.specs.declared.grounds.Pass.TheVariants.{First}
use Rattle.sd_check.specs.declared.verdict.Verdict.{Verdict}
use Rattle.sd_sid.specs.Mapping.{MappingValue}
use Rattle.sd_sid.specs.Mask.{mask_of}
use Rattle.sd_sid.specs.Sid.{SidValue, owner_rights, same_sid}
use Rattle.sd_whole.specs.Entry.{for_children_alone}
use Rattle.sd_whole.specs.Kind.{plain_kind}
use Rattle.sd_whole.specs.Plain.{plain_ace}
use Rattle.sd_whole.specs.declared.ace.TypedAce.{TypedAce}
use Rattle.sd_whole.specs.declared.ace.WholeAce.{WholeAce}
use Rattle.sd_whole.specs.declared.ace.WholeAce.TheVariants.{Plain, Typed, Opaque}
use Rattle.sd_whole.specs.declared.kind.WholeKind.{WholeKind}
use Rattle.sd_whole.specs.declared.kind.WholeKind.TheVariants as kinds
use Rattle.sd_specialize.proofs.Grants.{decides_nothing}
use Rattle.sd_specialize.proofs.Lists.{found, listed}
use Rattle.sd_specialize.proofs.Markers.{marker_applies, marker_applies_again, no_marker, restricted_alike, still_applies, still_applies_again, still_owner}
use Rattle.sd_specialize.proofs.NoMore.{decided}
use Rattle.sd_specialize.specs.Context.{ContextValue}
use Rattle.sd_specialize.specs.Entry.{applies_in, effective_for, entry_for, passes_agree, plain_for, trustee, typed_for, without_part}
use Rattle.sd_specialize.specs.Entry as whole
use Rattle.sd_specialize.specs.Everyone.{has_condition, is_conditional}
use Rattle.sd_specialize.specs.Marked.{HasNoMarker, HaveMarkers, MarkersStand, is_marked, decision_of, is_deny, hinders, is_marker, is_of_types, lets_apply, mark_place, marked_entry, marked_for, marked_list, marker, same_mark, with_markers}
use Rattle.sd_specialize.specs.Specialize.{entries_by, entries_for, specialized_list}

-- ---- what an entry is for the question

-- the SID that an entry is for
abbrev sid_for : ContextValue → WholeAce → SidValue
sid_for c (Plain e) = trustee c e.sid
sid_for c (Typed e) = trustee c e.sid
sid_for c (Opaque e) = whole.nobody

its_decision : (e : TypedAce) (kind : WholeKind) → e.kind ≡ kind → decision_of e ≡ cond (is_deny kind) Deny Allow
its_decision e kind is = ap (λ (k : WholeKind). cond (is_deny k) Deny Allow) is

module _ (c : ContextValue) where
  sid_decided : (decision : Option AceKind) (e : TypedAce) (a : Ace) → effective_for decision c e ≡ Ok a → a.sid ≡ trustee c e.sid
  sid_decided None e a found = absurd cc
  sid_decided (Some kind) e a found =
      let is = decided (passes_agree c e) (applies_in c First e) _ _ a found in
      elim (cases_Bool (applies_in c First e)) [
        | inl applies ↦ ap (λ (x : Ace). x.sid) (is ∙ ap (λ b. cond b (plain_for c kind e.flags.0 e.mask e.sid) (without_part c e.flags.0 e.sid)) applies)
        | inr passes ↦ ap (λ (x : Ace). x.sid) (is ∙ ap (λ b. cond b (plain_for c kind e.flags.0 e.mask e.sid) (without_part c e.flags.0 e.sid)) passes)
      ]

  sid_typed : (plain : Option AceKind) (inherit_only : Bool) (e : TypedAce) (a : Ace) → for_children_alone e.flags.0 ≡ inherit_only
      → typed_for plain c e ≡ Ok a → a.sid ≡ trustee c e.sid
  sid_typed (Some kind) inherit_only e a is found = cc
  sid_typed None true e a is found = let same : Ok (without_part c e.flags.0 e.sid) ≡ Ok a = rw is at found in cc
  sid_typed None false e a is found = sid_decided (whole.decides e.kind) e a (rw is at found)

  sid_of_entry : (e : WholeAce) (a : Ace) → entry_for c e ≡ Ok a → a.sid ≡ sid_for c e
  sid_of_entry (Plain e) a found = cc
  sid_of_entry (Typed e) a found = sid_typed (plain_kind e.kind) (for_children_alone e.flags.0) e a refl found
  sid_of_entry (Opaque e) a found = elim (cases_Bool (for_children_alone e.flags.0)) [
    | inl is ↦ let same : Ok (without_part c e.flags.0 whole.nobody) ≡ Ok a = rw is at found in cc
    | inr isnt ↦ absurd (let none = rw isnt at found in cc)
  ]

  -- an effective entry with a condition
  by_type : (kind : WholeKind) (decision : AceKind) (e : TypedAce) (a : Ace) → e.kind ≡ kind → for_children_alone e.flags.0 ≡ false
      → whole.decides kind ≡ Some decision → typed_for None c e ≡ Ok a
      → a ≡ (if whole.applies_as kind c First e then plain_for c decision e.flags.0 e.mask e.sid else without_part c e.flags.0 e.sid)
  by_type kind decision e a is alone decides h =
      let effective : effective_for (whole.decides e.kind) c e ≡ Ok a = rw alone at h in
      let known : effective_for (Some decision) c e ≡ Ok a =
      subst (λ d. effective_for d c e ≡ Ok a) (ap whole.decides is ∙ decides) effective in
      decided (passes_agree c e) (applies_in c First e) _ _ a known
      ∙ ap (λ (k : WholeKind). cond (whole.applies_as k c First e) (plain_for c decision e.flags.0 e.mask e.sid) (without_part c e.flags.0 e.sid)) is

  conditional_for : (kind : WholeKind) (e : TypedAce) (a : Ace) → e.kind ≡ kind → has_condition kind ≡ true → for_children_alone e.flags.0 ≡ false
      → typed_for (plain_kind kind) c e ≡ Ok a
      → a ≡ (if is_of_types kind c e && lets_apply c e then plain_for c (decision_of e) e.flags.0 e.mask e.sid else without_part c e.flags.0 e.sid)
  conditional_for kinds.CallbackAllow e a is has alone h = rw (its_decision e kinds.CallbackAllow is) (by_type kinds.CallbackAllow Allow e a is alone refl h)
  conditional_for kinds.CallbackDeny e a is has alone h = rw (its_decision e kinds.CallbackDeny is) (by_type kinds.CallbackDeny Deny e a is alone refl h)
  conditional_for kinds.CallbackObjectAllow e a is has alone h = rw (its_decision e kinds.CallbackObjectAllow is) (by_type kinds.CallbackObjectAllow Allow e a is alone refl h)
  conditional_for kinds.CallbackObjectDeny e a is has alone h = rw (its_decision e kinds.CallbackObjectDeny is) (by_type kinds.CallbackObjectDeny Deny e a is alone refl h)
  conditional_for _ e a is has alone h = absurd (false≢true has)

-- ---- what an entry is by markers

-- an entry decides a bit as the other one does, each for those to whom it applies, and if it does, as the same kind
record DecidesAlike (A B : AceKind → SidValue → Bool) (a b : Ace) : Type 0 where
  same : (g : MappingValue) (bit : ℕ) → decides g B bit b ≡ decides g A bit a
  kinds : (g : MappingValue) (bit : ℕ) → decides g A bit a ≡ true → is_allow b.kind ≡ is_allow a.kind

module _ (c : ContextValue) (marks : List TypedAce) (A B : AceKind → SidValue → Bool)
    (others : (kind : AceKind) (s : SidValue) → is_marker s ≡ false → B kind s ≡ A kind s)
    (markers : (e : TypedAce) → list_any (same_mark e) marks ≡ true → same_sid (trustee c e.sid) owner_rights ≡ false
    → B (decision_of e) (marker (mark_place marks e)) ≡ (A (decision_of e) (trustee c e.sid) && lets_apply c e)) where
  unmarked_alike : (a b : Ace) → b ≡ a → is_marker a.sid ≡ false → DecidesAlike A B a b
  unmarked_alike a b is other =
      rw is (record { same = λ g bit. rw (others a.kind a.sid other) refl; kinds = λ g bit h. refl })

  module _ (e : TypedAce) (a b : Ace) (among : list_any (same_mark e) marks ≡ true) (own : same_sid (trustee c e.sid) owner_rights ≡ false)
      (other : is_marker (trustee c e.sid) ≡ false) where
    for_another : a ≡ without_part c e.flags.0 e.sid → b ≡ without_part c e.flags.0 e.sid → DecidesAlike A B a b
    for_another is_a is_b =
        unmarked_alike a b (is_b ∙ sym is_a) (ap is_marker (ap (λ (x : Ace). x.sid) is_a) ∙ other)

    where_it_applies : lets_apply c e ≡ true → a ≡ plain_for c (decision_of e) e.flags.0 e.mask e.sid
        → b ≡ plain_ace (decision_of e) e.flags.0 e.mask (marker (mark_place marks e)) → DecidesAlike A B a b
    where_it_applies lets is_a is_b =
        let stands : B (decision_of e) (marker (mark_place marks e)) ≡ A (decision_of e) (trustee c e.sid) =
        markers e among own ∙ ap (λ x. A (decision_of e) (trustee c e.sid) && x) lets ∙ and-true _ in
        rw (is_a, is_b) (record { same = λ g bit. rw stands refl; kinds = λ g bit h. refl })

    where_it_doesn't : lets_apply c e ≡ false → a ≡ without_part c e.flags.0 e.sid
        → b ≡ plain_ace (decision_of e) e.flags.0 e.mask (marker (mark_place marks e)) → DecidesAlike A B a b
    where_it_doesn't lets is_a is_b =
        let stands : B (decision_of e) (marker (mark_place marks e)) ≡ false =
        markers e among own ∙ ap (λ x. A (decision_of e) (trustee c e.sid) && x) lets ∙ and-false _ in
        let nothing : (g : MappingValue) (bit : ℕ) → decides g A bit a ≡ false = λ g bit. decides_nothing g A bit a (ap (λ (x : Ace). x.mask) is_a) in
        let never : (g : MappingValue) (bit : ℕ) → decides g B bit b ≡ false = λ g bit. rw is_b (grind (arith, stands)) in
        record {
          same = λ g bit. never g bit ∙ sym (nothing g bit);
          kinds = λ g bit h. absurd (false≢true (sym (nothing g bit) ∙ h));
        }

    conditional_alike : (types lets : Bool) → lets_apply c e ≡ lets
        → a ≡ (if types && lets then plain_for c (decision_of e) e.flags.0 e.mask e.sid else without_part c e.flags.0 e.sid)
        → b ≡ (if types then plain_ace (decision_of e) e.flags.0 e.mask (marker (mark_place marks e)) else without_part c e.flags.0 e.sid)
        → DecidesAlike A B a b
    conditional_alike true true is is_a is_b = where_it_applies is is_a is_b
    conditional_alike true false is is_a is_b = where_it_doesn't is is_a is_b
    conditional_alike false lets is is_a is_b = for_another is_a is_b

-- a conditional entry limits no owner, by its marker or not
no_limit : (e : Ace) → same_sid e.sid owner_rights ≡ false → is_limit e ≡ false
no_limit e own = rw own (and-false _)

module _ (c : ContextValue) (marks : List TypedAce) (e : TypedAce) (a b : Ace) (own : same_sid (trustee c e.sid) owner_rights ≡ false) where
  its_sid : (types : Bool) → b ≡ (if types then plain_ace (decision_of e) e.flags.0 e.mask (marker (mark_place marks e)) else without_part c e.flags.0 e.sid)
      → same_sid b.sid owner_rights ≡ false
  its_sid true is_b = rw is_b (no_marker (mark_place marks e) owner_rights refl)
  its_sid false is_b = rw is_b own

  no_limits : a.sid ≡ trustee c e.sid → b ≡ marked_for c marks e → is_limit b ≡ is_limit a
  no_limits is_a is_b =
      no_limit b (its_sid (is_of_types e.kind c e) is_b) ∙ sym (no_limit a (rw is_a own))

-- ---- an entry, and a list

module _ (c : ContextValue) (marks : List TypedAce) (A B : AceKind → SidValue → Bool)
    (others : (kind : AceKind) (s : SidValue) → is_marker s ≡ false → B kind s ≡ A kind s)
    (markers : (e : TypedAce) → list_any (same_mark e) marks ≡ true → same_sid (trustee c e.sid) owner_rights ≡ false
    → B (decision_of e) (marker (mark_place marks e)) ≡ (A (decision_of e) (trustee c e.sid) && lets_apply c e)) where
  typed_alike : (e : TypedAce) (a b : Ace) (conditional : Bool) → is_conditional (Typed e) ≡ conditional → hinders c (Typed e) ≡ false
      → is_marked marks (Typed e) ≡ true → entry_for c (Typed e) ≡ Ok a → marked_entry c marks (Typed e) ≡ Ok b
      → DecidesAlike A B a b × (is_limit b ≡ is_limit a)
  typed_alike e a b false is free has one other =
      let other : entry_for c (Typed e) ≡ Ok b = rw is at other in
      let same : b ≡ a = cc in
      let none : is_marker (trustee c e.sid) ≡ false = grind (arith, free) in
      (unmarked_alike c marks A B others markers a b same (ap is_marker (sid_of_entry c (Typed e) a one) ∙ none), ap is_limit same)
  typed_alike e a b true is free has one other =
      let other : Ok (marked_for c marks e) ≡ Ok b = rw is at other in
      let is_b : b ≡ marked_for c marks e = cc in
      let has : list_any (same_mark e) marks ≡ true = rw is at has in
      let none : is_marker (trustee c e.sid) ≡ false = grind (arith, free) in
      let own : same_sid (trustee c e.sid) owner_rights ≡ false = grind (arith, free, is) in
      let parts = and_parts (has_condition e.kind) (not (for_children_alone e.flags.0)) is in
      let alone : for_children_alone e.flags.0 ≡ false = grind (arith, parts.1) in
      let is_a = conditional_for c e.kind e a refl parts.0 alone one in (
        conditional_alike c marks A B others markers e a b has own none (is_of_types e.kind c e) (lets_apply c e) refl is_a is_b,
        no_limits c marks e a b own (sid_of_entry c (Typed e) a one) is_b,
      )

  entry_alike : (e : WholeAce) (a b : Ace) → hinders c e ≡ false → is_marked marks e ≡ true → entry_for c e ≡ Ok a
      → marked_entry c marks e ≡ Ok b → DecidesAlike A B a b × (is_limit b ≡ is_limit a)
  entry_alike (Plain e) a b free has one other =
      let same : b ≡ a = cc in
      (unmarked_alike c marks A B others markers a b same (ap is_marker (sid_of_entry c (Plain e) a one) ∙ free), ap is_limit same)
  entry_alike (Typed e) a b free has one other = typed_alike e a b (is_conditional (Typed e)) refl free has one other
  entry_alike (Opaque e) a b free has one other =
      let same : b ≡ a = cc in
      (unmarked_alike c marks A B others markers a b same (ap is_marker (sid_of_entry c (Opaque e) a one) ∙ refl), ap is_limit same)

  -- the lists allow the same, each those to whom it applies, and limit the owner alike
  record ListsAlike (xs ys : List Ace) : Type 0 where
    allowed : (g : MappingValue) (bit : ℕ) → is_allowed_by (first g B ys bit) ≡ is_allowed_by (first g A xs bit)
    limits : limits_owner (Some ys) ≡ limits_owner (Some xs)

  one_more : (a b : Ace) (xs ys : List Ace) → DecidesAlike A B a b → (g : MappingValue) (bit : ℕ)
      → is_allowed_by (first g B ys bit) ≡ is_allowed_by (first g A xs bit)
      → is_allowed_by (first g B (b ∷ ys) bit) ≡ is_allowed_by (first g A (a ∷ xs) bit)
  one_more a b xs ys alike g bit rest =
      let same = alike.same g bit in
      elim (cases_Bool (decides g A bit a)) [
        | inl is ↦ let kinds = alike.kinds g bit is in grind (arith, same, is, kinds)
        | inr isnt ↦ grind (arith, same, isnt, rest)
      ]

  lists_alike : (n : ℕ) (es : List WholeAce) (xs ys : List Ace) → list_any (hinders c) es ≡ false → HaveMarkers marks es
      → entries_for c n es ≡ Ok xs → entries_by (marked_entry c marks) n es ≡ Ok ys → ListsAlike xs ys
  lists_alike n [] xs ys free have one other =
      let same : ys ≡ xs = cc in
      let none : xs ≡ [] = cc in
      rw (same, none) (record { allowed = λ g bit. refl; limits = refl })
  lists_alike n (e ∷ es) xs ys free have one other =
      let f = found n (entry_for c e) (entries_for c (n + 1) es) xs one in
      let l = found n (marked_entry c marks e) (entries_by (marked_entry c marks) (n + 1) es) ys other in
      let here_free : hinders c e ≡ false = grind (arith, free) in
      let rest_free : list_any (hinders c) es ≡ false = grind (arith, free) in
      let here = entry_alike e f.first l.first here_free have.0 f.is_first l.is_first in
      let others = lists_alike (n + 1) es f.rest l.rest rest_free have.1 f.are_rest l.are_rest in
      rw (f.are, l.are) (record {
        allowed = λ g bit. one_more f.first l.first f.rest l.rest here.0 g bit (others.allowed g bit);
        limits = cc (here.1, others.limits);
      })

-- ---- the verdict

judged_list : MappingValue → (ℕ → Bool) → ℕ → Verdict
judged_list g p r = judged g p (mask_of (λ b. nat_lt b 21 && p b) 32) r

-- lists that grant the same, each its token, give both one verdict
pub same_verdicts : (owner : Option SidValue) (xs ys : List Ace) (g : MappingValue) (t u : TokenValue)
    → ((b : ℕ) → is_granted owner (Some xs) g t b ≡ is_granted owner (Some ys) g u b)
    → (r : ℕ) → verdict owner (Some xs) g t r ≡ verdict owner (Some ys) g u r
unfolding judged_list
same_verdicts owner xs ys g t u same r = ap (λ p. judged_list g p r) (one_test _ _ same)

module _ (c : ContextValue) (marks : List TypedAce) (es : List WholeAce) (plain with : List Ace)
    (have : HaveMarkers marks es) (free : list_any (hinders c) es ≡ false)
    (one : specialized_list c es ≡ Ok plain) (other : marked_list c marks es ≡ Ok with)
    (owner : Option SidValue) (unmarked : option_map_or is_marker owner false ≡ false) (t : TokenValue) (none : HasNoMarker t) where
  same_granted : (g : MappingValue) (b : ℕ) → is_granted owner (Some plain) g t b ≡ is_granted owner (Some with) g (with_markers c marks t) b
  same_granted g b =
      let xs = listed (entries_for c 1 es) plain one in
      let ys = listed (entries_by (marked_entry c marks) 1 es) with other in
      let first_pass = lists_alike c marks (applies t owner) (applies (with_markers c marks t) owner) (still_applies c marks t none owner unmarked)
      (marker_applies c marks t none owner unmarked) 1 es plain with free have xs ys in
      let second_pass = lists_alike c marks (applies_again t owner) (applies_again (with_markers c marks t) owner) (still_applies_again c marks t none owner unmarked)
      (marker_applies_again c marks t none owner unmarked) 1 es plain with free have xs ys in
      grind (arith, first_pass.allowed g b, second_pass.allowed g b, first_pass.limits, still_owner c marks t none owner unmarked, restricted_alike c marks t none owner unmarked)

pub markers_stand : MarkersStand
markers_stand c marks es plain with have free one other owner unmarked t none g r =
    same_verdicts owner plain with g t (with_markers c marks t) (same_granted c marks es plain with have free one other owner unmarked t none g) r
