-- Copies of entries for markers change no verdict.
use Rattle.std.proofs.Common.{◌≡◌, ℕ, ◌+◌, ◌++◌, ◌∷◌, [], List, Bool, true, false, not, ◌&&◌, ◌||◌, ◌==◌, cond, nat_lt, Option, Some, ap, append_assoc, arith, inl, inr, refl, sym, ◌∙◌}
use Rattle.std.proofs.lemmas.Bool.{and_parts, cases_Bool, eqb-true, false≢true}
use Rattle.std.specs.List.{AllByRecursion, filter_map, list_any}
use Rattle.sd_acl.specs.Ace.{acl_size_of, is_allow}
use Rattle.sd_acl.specs.declared.ace.Ace.{Ace}
use Rattle.sd_acl.specs.declared.ace.AceKind.{AceKind}
use Rattle.sd_acl.specs.declared.ace.AceKind.TheVariants.{Allow, Deny}
use Rattle.sd_check.specs.Check.{applies, applies_again, decides, first, is_granted, is_limit, limits_owner}
use Rattle.sd_check.specs.Token.{TokenValue, a_group_stands_for, counts, is_restricting, stands_for}
use Rattle.sd_check.specs.declared.token.GroupState.{GroupState}
use Rattle.sd_check.specs.declared.token.GroupState.TheVariants.{Enabled, DenyOnly, Disabled}
use Rattle.sd_sid.proofs.Compared.{same_sid-true}
use Rattle.sd_sid.specs.Mapping.{MappingValue}
use Rattle.sd_sid.specs.Sid.{SidValue, owner_rights, same_sid}
use Rattle.sd_whole.specs.declared.ace.TypedAce.{TypedAce}
use Rattle.sd_whole.specs.declared.ace.WholeAce.{WholeAce}
use Rattle.sd_whole.specs.declared.ace.WholeAce.TheVariants.{Plain, Typed, Opaque}
use Rattle.sd_specialize.proofs.Markers.{marker_restricts, marker_stands, no_marker, own_mark, still_restricts, still_stands}
use Rattle.sd_specialize.proofs.MarkersStand.{same_verdicts}
use Rattle.sd_specialize.specs.Context.{ContextValue}
use Rattle.sd_specialize.specs.Copies.{CopiesChangeNothing, all_with_copies, copy_for, marker_of, markers_from, markers_of, speaks_of}
use Rattle.sd_specialize.specs.Entry.{trustee}
use Rattle.sd_specialize.specs.Everyone.{is_conditional}
use Rattle.sd_specialize.specs.Marked.{HasNoMarker, conditionals_of, decision_of, hinders, is_deny, is_marker, lets_apply, mark_place, marker, restricts, same_mark, stands, with_markers}
use Rattle.sd_specialize.specs.declared.copies.MarkerOf.{MarkerOf}

-- ---- copies decide nothing

-- an entry of the kind, of which the marker speaks, applies for its SID where one for the marker does
record Speaks (A : AceKind → SidValue → Bool) (m : MarkerOf) : Type 0 where
  sid : (kind : AceKind) → (is_allow kind && m.denies) ≡ false → A kind m.marker ≡ true → A kind m.sid ≡ true
  no_limit : same_sid m.marker owner_rights ≡ false

module _ (g : MappingValue) (A : AceKind → SidValue → Bool) (b : ℕ) (e : Ace) where
  -- a copy decides only what its entry does
  copy_decides : (m : MarkerOf) → Speaks A m → speaks_of e m ≡ true → decides g A b e ≡ false → decides g A b (record e { sid = m.marker }) ≡ false
  copy_decides m speaks is passes =
      let parts = and_parts (same_sid e.sid m.sid) (not (is_allow e.kind && m.denies)) is in
      let sid : e.sid ≡ m.sid = same_sid-true e.sid m.sid parts.0 in
      let more = speaks.sid e.kind (grind (arith, parts.1)) in
      let never : A e.kind m.sid ≡ A e.kind e.sid = ap (A e.kind) (sym sid) in
      elim (cases_Bool (A e.kind m.marker)) [
        | inl applies ↦ grind (arith, applies, more applies, never, passes)
        | inr isnt ↦ grind (arith, isnt)
      ]

  past_copies : (ms : List MarkerOf) (rest : List Ace) → AllByRecursion (Speaks A) ms → decides g A b e ≡ false
      → first g A (filter_map (copy_for e) ms ++ rest) b ≡ first g A rest b
  past_copies [] rest all passes = refl
  past_copies (m ∷ ms) rest all passes =
      let others = past_copies ms rest all.1 passes in
      elim (cases_Bool (speaks_of e m)) [
        | inl is ↦ rw (is, copy_decides m all.0 is passes) others
        | inr isnt ↦ rw isnt others
      ]

module _ (g : MappingValue) (A : AceKind → SidValue → Bool) (b : ℕ) (ms : List MarkerOf) (all : AllByRecursion (Speaks A) ms) where
  same_first : (es : List Ace) → first g A (all_with_copies ms es) b ≡ first g A es b
  same_first [] = refl
  same_first (e ∷ es) = elim (cases_Bool (decides g A b e)) [
    | inl is ↦ rw is refl
    | inr isnt ↦ rw isnt (past_copies g A b e ms (all_with_copies ms es) all isnt ∙ same_first es)
  ]

-- ---- nor do they limit the owner

module _ (A : AceKind → SidValue → Bool) where
  no_limits : (e : Ace) (ms : List MarkerOf) (rest : List Ace) → AllByRecursion (Speaks A) ms
      → limits_owner (Some (filter_map (copy_for e) ms ++ rest)) ≡ limits_owner (Some rest)
  no_limits e [] rest all = refl
  no_limits e (m ∷ ms) rest all =
      let others = no_limits e ms rest all.1 in
      elim (cases_Bool (speaks_of e m)) [
        | inl is ↦ rw is (grind (arith, others, all.0.no_limit))
        | inr isnt ↦ rw isnt others
      ]

  same_limits : (ms : List MarkerOf) → AllByRecursion (Speaks A) ms → (es : List Ace)
      → limits_owner (Some (all_with_copies ms es)) ≡ limits_owner (Some es)
  same_limits ms all [] = refl
  same_limits ms all (e ∷ es) = ap (λ x. is_limit e || x) (no_limits e ms (all_with_copies ms es) all ∙ same_limits ms all es)

-- ---- a token that has a marker has its SID

-- whoever has a SID for allows has it for denies
counts_for_denies : (state : GroupState) → counts Allow state ≡ true → counts Deny state ≡ true
counts_for_denies Enabled h = refl
counts_for_denies DenyOnly h = absurd (false≢true h)
counts_for_denies Disabled h = absurd (false≢true h)

a_group_denies : (groups : List (SidValue × GroupState)) (s : SidValue) → a_group_stands_for groups Allow s ≡ true → a_group_stands_for groups Deny s ≡ true
a_group_denies [] s h = absurd (false≢true h)
a_group_denies (group ∷ groups) s h =
    let state = counts_for_denies group.1 in
    let others = a_group_denies groups s in
    elim (cases_Bool (same_sid group.0 s && counts Allow group.1)) [
      | inl is ↦ grind (arith, is, state)
      | inr isnt ↦ grind (arith, isnt, h, others)
    ]

stands_for_denies : (t : TokenValue) (s : SidValue) → stands_for t Allow s ≡ true → stands_for t Deny s ≡ true
stands_for_denies t s h =
    let state = counts_for_denies t.user_state in
    let groups = a_group_denies t.groups s in
    elim (cases_Bool (same_sid t.user s && counts Allow t.user_state)) [
      | inl is ↦ grind (arith, is, state)
      | inr isnt ↦ grind (arith, isnt, h, groups)
    ]

-- so it is for each kind of which the marker speaks
pub stands_as : (t : TokenValue) (s : SidValue) (kind : AceKind) (denies : Bool) → (is_allow kind && denies) ≡ false
    → stands_for t (cond denies Deny Allow) s ≡ true → stands_for t kind s ≡ true
stands_as t s Allow true free h = absurd (false≢true (sym free))
stands_as t s Allow false free h = h
stands_as t s Deny true free h = h
stands_as t s Deny false free h = stands_for_denies t s h

-- a marker can stand for the condition of the entry
pub record CanStand (c : ContextValue) (e : TypedAce) : Type 0 where
  pub other : is_marker (trustee c e.sid) ≡ false
  pub own : same_sid (trustee c e.sid) owner_rights ≡ false

module _ (c : ContextValue) (marks : List TypedAce) (t : TokenValue) (none : HasNoMarker t) (owner : Option SidValue)
    (e : TypedAce) (n : ℕ) (can : CanStand c e) (among : list_any (same_mark e) marks ≡ true) (place : mark_place marks e ≡ n) where
  -- an entry for the SID speaks of whom the token stands for
  spoken_of : (kind : AceKind) → stands_for t kind (trustee c e.sid) ≡ true → applies (with_markers c marks t) owner kind (trustee c e.sid) ≡ true
  spoken_of kind h = rw can.own (still_stands c marks t none kind (trustee c e.sid) can.other ∙ h)

  spoken_of_again : is_restricting t (trustee c e.sid) ≡ true → (kind : AceKind) → applies_again (with_markers c marks t) owner kind (trustee c e.sid) ≡ true
  spoken_of_again h kind = rw can.own (still_restricts c marks t none (trustee c e.sid) can.other ∙ h)

  speaks_first : Speaks (applies (with_markers c marks t) owner) (marker_of c n e)
  speaks_first = record {
    sid = λ kind free h.
        let has : stands c t e ≡ true = sym (marker_stands c marks t none kind e among) ∙ ap (λ k. stands_for (with_markers c marks t) kind (marker k)) place ∙ h in
        let parts = and_parts (stands_for t (decision_of e) (trustee c e.sid)) (lets_apply c e) has in
        spoken_of kind (stands_as t (trustee c e.sid) kind (is_deny e.kind) free parts.0);
    no_limit = no_marker n owner_rights refl;
  }

  speaks_again : Speaks (applies_again (with_markers c marks t) owner) (marker_of c n e)
  speaks_again = record {
    sid = λ kind free h.
        let has : restricts c t e ≡ true = sym (marker_restricts c marks t none e among) ∙ ap (λ k. is_restricting (with_markers c marks t) (marker k)) place ∙ h in
        let parts = and_parts (is_restricting t (trustee c e.sid)) (lets_apply c e) has in
        spoken_of_again parts.0 kind;
    no_limit = no_marker n owner_rights refl;
  }

-- ---- the markers of a list

module _ (c : ContextValue) (marks : List TypedAce) (A : AceKind → SidValue → Bool)
    (speaks : (e : TypedAce) (n : ℕ) → CanStand c e → list_any (same_mark e) marks ≡ true → mark_place marks e ≡ n → Speaks A (marker_of c n e)) where
  all_speak : (front rest : List TypedAce) (n : ℕ) → marks ≡ front ++ rest → AllByRecursion (CanStand c) rest
      → AllByRecursion (Speaks A) (markers_from c marks n rest)
  all_speak front [] n are can = tt
  all_speak front (e ∷ rest) n are can =
      let others = all_speak (front ++ e ∷ []) rest (n + 1) (are ∙ sym (append_assoc front (e ∷ []) rest)) can.1 in
      let among : list_any (same_mark e) marks ≡ true = ap (list_any (same_mark e)) are ∙ own_mark front e rest in
      elim (cases_Bool (mark_place marks e == n)) [
        | inl is ↦ rw is (speaks e n can.0 among (eqb-true (mark_place marks e) n is), others)
        | inr isnt ↦ rw isnt others
      ]

pub can_stand : (c : ContextValue) (es : List WholeAce) → list_any (hinders c) es ≡ false → AllByRecursion (CanStand c) (conditionals_of es)
can_stand c [] free = tt
can_stand c (Plain e ∷ es) free = can_stand c es (grind (arith, free))
can_stand c (Opaque e ∷ es) free = can_stand c es free
can_stand c (Typed e ∷ es) free =
    let others = can_stand c es (grind (arith, free)) in
    elim (cases_Bool (is_conditional (Typed e))) [
      | inl is ↦ rw is (record { other = grind (arith, free); own = grind (arith, free, is) }, others)
      | inr isnt ↦ rw isnt others
    ]

-- ---- the verdict

module _ (c : ContextValue) (all : List WholeAce) (free : list_any (hinders c) all ≡ false) (t : TokenValue) (none : HasNoMarker t)
    (owner : Option SidValue) (es : List Ace) (g : MappingValue) where
  same_granted : (b : ℕ) → is_granted owner (Some (all_with_copies (markers_of c (conditionals_of all)) es)) g (with_markers c (conditionals_of all) t) b
      ≡ is_granted owner (Some es) g (with_markers c (conditionals_of all) t) b
  same_granted b =
      let marks = conditionals_of all in
      let now = with_markers c marks t in
      let ms = markers_of c marks in
      let can = can_stand c all free in
      let one = all_speak c marks (applies now owner) (speaks_first c marks t none owner) [] marks 0 refl can in
      let again = all_speak c marks (applies_again now owner) (speaks_again c marks t none owner) [] marks 0 refl can in
      grind (arith, same_first g (applies now owner) b ms one es, same_first g (applies_again now owner) b ms again es, same_limits (applies now owner) ms one es)

pub copies_change_nothing : CopiesChangeNothing
copies_change_nothing c all free t none owner es g r =
    elim (cases_Bool (nat_lt 65535 (acl_size_of (all_with_copies (markers_of c (conditionals_of all)) es)))) [
      | inl is ↦ rw is refl
      | inr isnt ↦ rw isnt (same_verdicts owner (all_with_copies (markers_of c (conditionals_of all)) es) es g
          (with_markers c (conditionals_of all) t) (with_markers c (conditionals_of all) t) (same_granted c all free t none owner es g) r)
    ]
