-- What a token with markers stands for: for a marker where it counts as having it, and for any other SID as before.
use Rattle.std.proofs.Common.{◌≡◌, ℕ, ◌+◌, ◌/◌, ◌%◌, ◌<◌, ◌++◌, ◌∷◌, [], List, Bool, true, false, not, ◌&&◌, ◌||◌, ◌==◌, cond, length, map, Option, Some, None, ap, arith, inl, inr, refl, subst, sym, ◌∙◌}
use Rattle.std.proofs.lemmas.Bool.{and_parts, cases_Bool, false≢true, true≢false}
use Rattle.std.proofs.Math.Bool.{or-false, or-true}
use Rattle.std.proofs.Math.Dec.{eqb-suc-zero}
use Rattle.std.proofs.lemmas.List.{append_assoc}
use Rattle.std.proofs.lemmas.Slice.Eq.{bytes_eq-Decides}
use Rattle.std.specs.Bool.{beq}
use Rattle.std.specs.Str.{bytes_eq}
use Rattle.std.proofs.lemmas.List.Folds.{list_any-append}
use Rattle.std.specs.List.{cons_option, list_any}
use Rattle.std.specs.Option.{option_map_or}
use Rattle.sd_acl.specs.declared.ace.AceKind.{AceKind}
use Rattle.sd_acl.specs.declared.ace.AceKind.TheVariants.{Allow, Deny}
use Rattle.sd_check.specs.Check.{applies, applies_again, is_owner, is_restricting_subject, stands_for_subject, subject}
use Rattle.sd_check.specs.Token.{TokenValue, a_group_stands_for, counts, is_restricted, is_restricting, stands_for}
use Rattle.sd_check.specs.declared.token.GroupState.{GroupState}
use Rattle.sd_sid.proofs.Compared.{same_sid-itself, same_sid-true}
use Rattle.sd_sid.specs.Sid.{SidValue, owner_rights, same_sid}
use Rattle.sd_whole.specs.declared.ace.TypedAce.{TypedAce}
use Rattle.sd_whole.specs.declared.ace.WholeAce.{WholeAce}
use Rattle.sd_specialize.specs.Context.{ContextValue}
use Rattle.sd_specialize.specs.Entry.{trustee}
use Rattle.sd_specialize.specs.Marked.{AllAreMarked, HasNoMarker, HaveMarkers, as_group, conditional_in, conditionals_of, decision_of, is_deny, is_marker, lets_apply, mark_place, marker, markers_where, restricts, same_mark, stands, with_markers}

-- ---- markers

marker_apart : (i k : ℕ) → marker i ≡ marker k → i ≡ k
marker_apart i k h =
    let subs : i / 4294967296 ∷ i % 4294967296 ∷ [] ≡ k / 4294967296 ∷ k % 4294967296 ∷ [] = ap (λ (s : SidValue). s.subs) h in
    let high : i / 4294967296 ≡ k / 4294967296 = cc in
    let low : i % 4294967296 ≡ k % 4294967296 = cc in
    omega (arith, high, low)

-- a SID that is no marker is none of them
pub no_marker : (n : ℕ) (s : SidValue) → is_marker s ≡ false → same_sid (marker n) s ≡ false
no_marker n s none = elim (cases_Bool (same_sid (marker n) s)) [
  | inl is ↦ absurd (true≢false (ap is_marker (same_sid-true (marker n) s is) ∙ none))
  | inr isnt ↦ isnt
]

not_a_marker : (n : ℕ) (s : SidValue) → is_marker s ≡ false → same_sid s (marker n) ≡ false
not_a_marker n s none = elim (cases_Bool (same_sid s (marker n))) [
  | inl is ↦ absurd (true≢false (sym (ap is_marker (same_sid-true s (marker n) is)) ∙ none))
  | inr isnt ↦ isnt
]

another_marker : (i k : ℕ) → (i ≡ k → ⊥) → same_sid (marker i) (marker k) ≡ false
another_marker i k apart = elim (cases_Bool (same_sid (marker i) (marker k))) [
  | inl is ↦ absurd (apart (marker_apart i k (same_sid-true (marker i) (marker k) is)))
  | inr isnt ↦ isnt
]

-- ---- markers whose entries pass a test that says the same of entries with one marker

abbrev has : SidValue → List SidValue → Bool
has s sids = list_any (λ one. same_sid one s) sids

module _ (test : TypedAce → Bool) where
  none_of_others : (n : ℕ) (marks : List TypedAce) (s : SidValue) → is_marker s ≡ false → has s (markers_where test n marks) ≡ false
  none_of_others n [] s none = refl
  none_of_others n (m ∷ marks) s none =
      let rest = none_of_others (n + 1) marks s none in
      elim (cases_Bool (test m)) [
        | inl is ↦ rw (is, no_marker n s none) rest
        | inr isnt ↦ rw isnt rest
      ]

  none_below : (k n : ℕ) (marks : List TypedAce) → k < n → has (marker k) (markers_where test n marks) ≡ false
  none_below k n [] low = refl
  none_below k n (m ∷ marks) low =
      let rest = none_below k (n + 1) marks (omega (arith, low)) in
      elim (cases_Bool (test m)) [
        | inl is ↦ rw (is, another_marker n k (λ same. omega (arith, low, same))) rest
        | inr isnt ↦ rw isnt rest
      ]

  none_where_none : (n : ℕ) (marks : List TypedAce) → ((e : TypedAce) → test e ≡ false) → markers_where test n marks ≡ []
  none_where_none n [] never = refl
  none_where_none n (m ∷ marks) never = rw (never m) (none_where_none (n + 1) marks never)

  module _ (alike : (e m : TypedAce) → same_mark e m ≡ true → test e ≡ test m) (n k : ℕ) (m : TypedAce) (marks : List TypedAce) (e : TypedAce)
      (is_number : k ≡ n + mark_place (m ∷ marks) e) where
    -- the marker of the first of them
    of_first : same_mark e m ≡ true → has (marker k) (markers_where test n (m ∷ marks)) ≡ test e
    of_first is =
        let here : k ≡ n = is_number ∙ ap (λ b. n + cond (not b) (1 + mark_place marks e) 0) is ∙ omega arith in
        elim (cases_Bool (test m)) [
          | inl passes ↦ rw (here, passes, same_sid-itself (marker n), alike e m is) (sym passes)
          | inr fails ↦ rw (here, fails, none_below n (n + 1) marks (omega arith), alike e m is) (sym fails)
        ]

    -- the marker of another one is among the rest
    its_number : same_mark e m ≡ false → k ≡ (n + 1) + mark_place marks e
    its_number isnt = is_number ∙ ap (λ b. n + cond (not b) (1 + mark_place marks e) 0) isnt ∙ omega arith

    of_another : same_mark e m ≡ false → has (marker k) (markers_where test (n + 1) marks) ≡ test e → has (marker k) (markers_where test n (m ∷ marks)) ≡ test e
    of_another isnt rest =
        let number = its_number isnt in
        elim (cases_Bool (test m)) [
          | inl passes ↦ rw (passes, another_marker n k (λ same. omega (arith, same, number))) rest
          | inr fails ↦ rw fails rest
        ]

  has_marker : ((e m : TypedAce) → same_mark e m ≡ true → test e ≡ test m) → (n k : ℕ) (marks : List TypedAce) (e : TypedAce)
      → k ≡ n + mark_place marks e → list_any (same_mark e) marks ≡ true → has (marker k) (markers_where test n marks) ≡ test e
  has_marker alike n k [] e number among = absurd (false≢true among)
  has_marker alike n k (m ∷ marks) e number among = elim (cases_Bool (same_mark e m)) [
    | inl is ↦ of_first alike n k m marks e number is
    | inr isnt ↦ of_another alike n k m marks e number isnt (has_marker alike (n + 1) k marks e (its_number alike n k m marks e number isnt)
        (ap (λ b. b || list_any (same_mark e) marks) (sym isnt) ∙ among))
  ]

-- ---- groups

as_groups : (sids : List SidValue) (kind : AceKind) (s : SidValue) → a_group_stands_for (map as_group sids) kind s ≡ has s sids
as_groups [] kind s = refl
as_groups (one ∷ sids) kind s = grind (arith, as_groups sids kind s)

no_group : (groups : List (SidValue × GroupState)) (n : ℕ) (kind : AceKind)
    → list_any (λ (group : SidValue × GroupState). is_marker group.0) groups ≡ false → a_group_stands_for groups kind (marker n) ≡ false
no_group [] n kind none = refl
no_group (group ∷ groups) n kind none =
    let first : is_marker group.0 ≡ false = grind (arith, none) in
    let others : list_any (λ (group : SidValue × GroupState). is_marker group.0) groups ≡ false = grind (arith, none) in
    rw (not_a_marker n group.0 first) (no_group groups n kind others)

no_sid : (sids : List SidValue) (n : ℕ) → list_any is_marker sids ≡ false → has (marker n) sids ≡ false
no_sid [] n none = refl
no_sid (s ∷ sids) n none =
    let first : is_marker s ≡ false = grind (arith, none) in
    let others : list_any is_marker sids ≡ false = grind (arith, none) in
    rw (not_a_marker n s first) (no_sid sids n others)

-- ---- a token with markers

-- entries with one marker decide the same for the same SID under the same condition
record SayTheSame (e m : TypedAce) : Type 0 where
  decision : decision_of e ≡ decision_of m
  sid : e.sid ≡ m.sid
  bytes : e.trailing ≡ m.trailing

same_denial : (a b : Bool) → beq a b ≡ true → a ≡ b
same_denial true true h = refl
same_denial false false h = refl
same_denial true false h = absurd cc
same_denial false true h = absurd cc

equal_bytes : (xs ys : List ℕ) → bytes_eq xs ys ≡ true → xs ≡ ys
equal_bytes xs ys h = (bytes_eq-Decides xs ys).0 h

say_the_same : (e m : TypedAce) → same_mark e m ≡ true → SayTheSame e m
say_the_same e m is =
    let parts = and_parts (beq (is_deny e.kind) (is_deny m.kind) && same_sid e.sid m.sid) (bytes_eq e.trailing m.trailing) is in
    let front = and_parts (beq (is_deny e.kind) (is_deny m.kind)) (same_sid e.sid m.sid) parts.0 in
    record {
      decision = ap (λ b. cond b Deny Allow) (same_denial (is_deny e.kind) (is_deny m.kind) front.0);
      sid = same_sid-true e.sid m.sid front.1;
      bytes = equal_bytes e.trailing m.trailing parts.1;
    }

module _ (c : ContextValue) (t : TokenValue) where
  same_stands : (e m : TypedAce) → same_mark e m ≡ true → stands c t e ≡ stands c t m
  same_stands e m is =
      let same = say_the_same e m is in
      rw (same.decision, same.sid, same.bytes) refl

  same_restricts : (e m : TypedAce) → same_mark e m ≡ true → restricts c t e ≡ restricts c t m
  same_restricts e m is =
      let same = say_the_same e m is in
      rw (same.decision, same.sid, same.bytes) refl

module _ (c : ContextValue) (marks : List TypedAce) (t : TokenValue) (none : HasNoMarker t) where
  -- for another SID than a marker it stands as before
  pub still_stands : (kind : AceKind) (s : SidValue) → is_marker s ≡ false → stands_for (with_markers c marks t) kind s ≡ stands_for t kind s
  still_stands kind s other =
      let all = list_any-append (λ (group : SidValue × GroupState). same_sid group.0 s && counts kind group.1) t.groups (map as_group (markers_where (stands c t) 0 marks)) in
      let added = as_groups (markers_where (stands c t) 0 marks) kind s ∙ none_of_others (stands c t) 0 marks s other in
      ap (λ b. (same_sid t.user s && counts kind t.user_state) || b) (all ∙ ap (λ b. a_group_stands_for t.groups kind s || b) added ∙ or-false _)

  -- for a marker it stands where it counts as having it
  pub marker_stands : (kind : AceKind) (e : TypedAce) → list_any (same_mark e) marks ≡ true
      → stands_for (with_markers c marks t) kind (marker (mark_place marks e)) ≡ stands c t e
  marker_stands kind e among =
      let all = list_any-append (λ (group : SidValue × GroupState). same_sid group.0 (marker (mark_place marks e)) && counts kind group.1) t.groups (map as_group (markers_where (stands c t) 0 marks)) in
      let before = no_group t.groups (mark_place marks e) kind none.groups in
      let added = as_groups (markers_where (stands c t) 0 marks) kind (marker (mark_place marks e)) ∙ has_marker (stands c t) (same_stands c t) 0 (mark_place marks e) marks e (omega arith) among in
      rw (not_a_marker (mark_place marks e) t.user none.user, all, before) added

  pub still_restricts : (s : SidValue) → is_marker s ≡ false → is_restricting (with_markers c marks t) s ≡ is_restricting t s
  still_restricts s other =
      list_any-append (λ one. same_sid one s) t.restricting (markers_where (restricts c t) 0 marks)
      ∙ ap (λ b. has s t.restricting || b) (none_of_others (restricts c t) 0 marks s other) ∙ or-false _

  pub marker_restricts : (e : TypedAce) → list_any (same_mark e) marks ≡ true
      → is_restricting (with_markers c marks t) (marker (mark_place marks e)) ≡ restricts c t e
  marker_restricts e among =
      list_any-append (λ one. same_sid one (marker (mark_place marks e))) t.restricting (markers_where (restricts c t) 0 marks)
      ∙ ap (λ b. b || has (marker (mark_place marks e)) (markers_where (restricts c t) 0 marks)) (no_sid t.restricting (mark_place marks e) none.restricting)
      ∙ has_marker (restricts c t) (same_restricts c t) 0 (mark_place marks e) marks e (omega arith) among

  -- it is restricted as before
  still_restricted : (restricting : List SidValue) → t.restricting ≡ restricting → is_restricted (with_markers c marks t) ≡ is_restricted t
  still_restricted [] is =
      let never : (e : TypedAce) → restricts c t e ≡ false = λ e. ap (λ sids. has (trustee c e.sid) sids && lets_apply c e) is in
      rw (none_where_none (restricts c t) 0 marks never, is) refl
  still_restricted (s ∷ sids) is =
      ap (λ (all : List SidValue). not (length (all ++ markers_where (restricts c t) 0 marks) == 0)) is
      ∙ ap not (eqb-suc-zero (length (sids ++ markers_where (restricts c t) 0 marks)) ∙ sym (eqb-suc-zero (length sids)))
      ∙ sym (ap (λ (all : List SidValue). not (length all == 0)) is)

-- ---- which entries apply

module _ (c : ContextValue) (marks : List TypedAce) (t : TokenValue) (none : HasNoMarker t) (owner : Option SidValue)
    (unmarked : option_map_or is_marker owner false ≡ false) where
  owner_stands : (o : Option SidValue) (kind : AceKind) → option_map_or is_marker o false ≡ false
      → stands_for_subject (with_markers c marks t) kind o ≡ stands_for_subject t kind o
  owner_stands None kind other = refl
  owner_stands (Some s) kind other = still_stands c marks t none kind s other

  owner_restricts : (o : Option SidValue) → option_map_or is_marker o false ≡ false
      → is_restricting_subject (with_markers c marks t) o ≡ is_restricting_subject t o
  owner_restricts None other = refl
  owner_restricts (Some s) other = still_restricts c marks t none s other

  other_subject : (s : SidValue) → is_marker s ≡ false → option_map_or is_marker (subject owner s) false ≡ false
  other_subject s other = elim (cases_Bool (same_sid s owner_rights)) [
    | inl is ↦ rw is unmarked
    | inr isnt ↦ rw isnt other
  ]

  pub still_applies : (kind : AceKind) (s : SidValue) → is_marker s ≡ false
      → applies (with_markers c marks t) owner kind s ≡ applies t owner kind s
  still_applies kind s other = owner_stands (subject owner s) kind (other_subject s other)

  pub still_applies_again : (kind : AceKind) (s : SidValue) → is_marker s ≡ false
      → applies_again (with_markers c marks t) owner kind s ≡ applies_again t owner kind s
  still_applies_again kind s other = owner_restricts (subject owner s) (other_subject s other)

  pub marker_applies : (e : TypedAce) → list_any (same_mark e) marks ≡ true → same_sid (trustee c e.sid) owner_rights ≡ false
      → applies (with_markers c marks t) owner (decision_of e) (marker (mark_place marks e))
      ≡ (applies t owner (decision_of e) (trustee c e.sid) && lets_apply c e)
  marker_applies e among own =
      rw own (marker_stands c marks t none (decision_of e) e among)

  pub marker_applies_again : (e : TypedAce) → list_any (same_mark e) marks ≡ true → same_sid (trustee c e.sid) owner_rights ≡ false
      → applies_again (with_markers c marks t) owner (decision_of e) (marker (mark_place marks e))
      ≡ (applies_again t owner (decision_of e) (trustee c e.sid) && lets_apply c e)
  marker_applies_again e among own =
      rw own (marker_restricts c marks t none e among)

  pub still_owner : is_owner (with_markers c marks t) owner ≡ is_owner t owner
  still_owner = grind (arith, owner_stands owner Allow unmarked, owner_restricts owner unmarked, still_restricted c marks t none t.restricting refl)

  pub restricted_alike : is_restricted (with_markers c marks t) ≡ is_restricted t
  restricted_alike = still_restricted c marks t none t.restricting refl

-- ---- the markers of a list

beq-itself : (b : Bool) → beq b b ≡ true
beq-itself true = refl
beq-itself false = refl

same_mark-itself : (e : TypedAce) → same_mark e e ≡ true
same_mark-itself e = rw (beq-itself (is_deny e.kind), same_sid-itself e.sid) ((bytes_eq-Decides e.trailing e.trailing).1 refl)

pub own_mark : (front : List TypedAce) (e : TypedAce) (back : List TypedAce) → list_any (same_mark e) (front ++ e ∷ back) ≡ true
own_mark front e back =
    list_any-append (same_mark e) front (e ∷ back)
    ∙ ap (λ b. list_any (same_mark e) front || (b || list_any (same_mark e) back)) (same_mark-itself e)
    ∙ or-true _

module _ (after : List TypedAce) where
  each_marked : (before : List TypedAce) (es : List WholeAce) → HaveMarkers (before ++ (conditionals_of es ++ after)) es
  each_marked before [] = tt
  each_marked before (e ∷ es) = by (conditional_in e) refl (λ front. each_marked front es)
    where
      by : (found : Option TypedAce) → conditional_in e ≡ found
          → ((front : List TypedAce) → HaveMarkers (front ++ (conditionals_of es ++ after)) es)
          → HaveMarkers (before ++ (conditionals_of (e ∷ es) ++ after)) (e ∷ es)
      by None is rest =
          let same : conditionals_of (e ∷ es) ≡ conditionals_of es = ap (λ f. cons_option f (conditionals_of es)) is in (
            ap (λ f. option_map_or (λ (one : TypedAce). list_any (same_mark one) (before ++ (conditionals_of (e ∷ es) ++ after))) f true) is,
            subst (λ (all : List TypedAce). HaveMarkers (before ++ (all ++ after)) es) (sym same) (rest before),
          )
      by (Some one) is rest =
          let same : conditionals_of (e ∷ es) ≡ one ∷ conditionals_of es = ap (λ f. cons_option f (conditionals_of es)) is in
          let whole : (before ++ one ∷ []) ++ (conditionals_of es ++ after) ≡ before ++ (one ∷ (conditionals_of es ++ after)) = append_assoc before (one ∷ []) (conditionals_of es ++ after) in (
            ap (λ f. option_map_or (λ (one : TypedAce). list_any (same_mark one) (before ++ (conditionals_of (e ∷ es) ++ after))) f true) is
                ∙ ap (λ (all : List TypedAce). list_any (same_mark one) (before ++ (all ++ after))) same ∙ own_mark before one (conditionals_of es ++ after),
            subst (λ marks. HaveMarkers marks es) (whole ∙ sym (ap (λ (all : List TypedAce). before ++ (all ++ after)) same)) (rest (before ++ one ∷ [])),
          )

pub all_are_marked : AllAreMarked
all_are_marked before after es = each_marked after before es
