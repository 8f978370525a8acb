-- By a list with copies, who has the marker of an allow is answered as who has its SID too.
use Rattle.std.proofs.Common.{◌≡◌, ℕ, ◌+◌, ◌++◌, ◌∷◌, [], List, Bool, true, false, ◌&&◌, ◌||◌, ◌==◌, Option, Some, None, ap, arith, inl, inr, refl, subst, sym, ◌∙◌}
use Rattle.std.specs.Prelude.{if◌then◌else◌}
use Rattle.std.proofs.lemmas.Bool.{cases_Bool, true≢false}
use Rattle.std.proofs.Math.Bool.{or-true}
use Rattle.std.proofs.lemmas.List.Folds.{list_any-append}
use Rattle.std.specs.List.{AllByRecursion, filter_map, list_any}
use Rattle.std.specs.Option.{option_map_or}
use Rattle.sd_acl.specs.Ace.{is_allow}
use Rattle.sd_acl.specs.declared.ace.Ace.{Ace}
use Rattle.sd_acl.specs.declared.ace.AceKind.{AceKind}
use Rattle.sd_acl.specs.declared.ace.AceKind.TheVariants.{Allow, Deny}
use Rattle.sd_check.specs.Check.{applies, decides, first, is_allowed_by, is_granted, stands_for_subject}
use Rattle.sd_check.specs.Token.{TokenValue, stands_for}
use Rattle.sd_sid.proofs.Compared.{same_sid-itself, same_sid-true}
use Rattle.sd_sid.specs.Mapping.{MappingValue}
use Rattle.sd_sid.specs.Sid.{SidValue, owner_rights, same_sid}
use Rattle.sd_whole.specs.declared.ace.TypedAce.{TypedAce}
use Rattle.sd_specialize.proofs.CopiesStand.{CanStand, can_stand, stands_as}
use Rattle.sd_specialize.proofs.MarkersStand.{same_verdicts}
use Rattle.sd_specialize.specs.Context.{ContextValue}
use Rattle.sd_specialize.specs.Copies.{MarkersBringTheirSids, all_with_copies, copy_for, markers_from, speaks_of, with_group}
use Rattle.sd_specialize.specs.Marked.{conditionals_of, is_marker, mark_place}
use Rattle.sd_specialize.specs.declared.copies.MarkerOf.{MarkerOf}

-- ---- an entry and its copies

module _ (g : MappingValue) (A : AceKind → SidValue → Bool) (b : ℕ) (e : Ace) (rest : List Ace) where
  -- copies decide as their entry would
  past_copies : (ms : List MarkerOf) → is_allowed_by (first g A (filter_map (copy_for e) ms ++ rest) b)
      ≡ (if list_any (λ m. speaks_of e m && decides g A b (record e { sid = m.marker })) ms then is_allow e.kind else is_allowed_by (first g A rest b))
  past_copies [] = refl
  past_copies (m ∷ ms) =
      let others = past_copies ms in
      elim (cases_Bool (speaks_of e m)) [
        | inl is ↦ elim (cases_Bool (decides g A b (record e { sid = m.marker }))) [
          | inl does ↦ rw (is, does) refl
          | inr passes ↦ rw (is, passes) others
        ]
        | inr isnt ↦ rw isnt others
      ]

module _ (g : MappingValue) (A B : AceKind → SidValue → Bool) (b : ℕ) (s : SidValue)
    (others : (kind : AceKind) (x : SidValue) → same_sid s x ≡ false → B kind x ≡ A kind x)
    (brought : (kind : AceKind) → B kind s ≡ true) where
  -- copies are for other SIDs
  same_copies : (e : Ace) (ms : List MarkerOf) → AllByRecursion (λ (m : MarkerOf). same_sid s m.marker ≡ false) ms
      → list_any (λ (m : MarkerOf). speaks_of e m && decides g B b (record e { sid = m.marker })) ms
      ≡ list_any (λ (m : MarkerOf). speaks_of e m && decides g A b (record e { sid = m.marker })) ms
  same_copies e [] apart = refl
  same_copies e (m ∷ ms) apart = grind (arith, others e.kind m.marker apart.0, same_copies e ms apart.1)

  module _ (m : MarkerOf) (ms : List MarkerOf) (among : (p : MarkerOf → Bool) → p m ≡ true → list_any p ms ≡ true)
      (sid : m.sid ≡ s) (allows : m.denies ≡ false) (has : (kind : AceKind) → A kind m.marker ≡ true)
      (apart : AllByRecursion (λ (m : MarkerOf). same_sid s m.marker ≡ false) ms) where
    -- where an entry decides for the SID, so does its copy for the marker
    copy_does : (e : Ace) → decides g A b e ≡ false → decides g B b e ≡ true
        → list_any (λ (m : MarkerOf). speaks_of e m && decides g A b (record e { sid = m.marker })) ms ≡ true
    copy_does e passes does = elim (cases_Bool (same_sid s e.sid)) [
      | inl is ↦
          let same : s ≡ e.sid = same_sid-true s e.sid is in
          let speaks : same_sid e.sid m.sid ≡ true = rw (sid, same) (same_sid-itself e.sid) in
          among (λ (m : MarkerOf). speaks_of e m && decides g A b (record e { sid = m.marker })) (grind (arith, speaks, allows, has e.kind, does))
      | inr isnt ↦ absurd (grind (arith, others e.kind e.sid isnt, passes, does))
    ]

    still_does : (e : Ace) → decides g A b e ≡ true → decides g B b e ≡ true
    still_does e does = elim (cases_Bool (same_sid s e.sid)) [
      | inl is ↦ let same : B e.kind e.sid ≡ true = sym (ap (B e.kind) (same_sid-true s e.sid is)) ∙ brought e.kind in grind (arith, same, does)
      | inr isnt ↦ grind (arith, others e.kind e.sid isnt, does)
    ]

    same_allowed : (es : List Ace) → is_allowed_by (first g B (all_with_copies ms es) b) ≡ is_allowed_by (first g A (all_with_copies ms es) b)
    same_allowed [] = refl
    same_allowed (e ∷ es) =
        let rest = same_allowed es in
        let one = past_copies g A b e (all_with_copies ms es) ms in
        let other = past_copies g B b e (all_with_copies ms es) ms in
        let copies = same_copies e ms apart in
        elim (cases_Bool (decides g A b e)) [
          | inl does ↦ rw (does, still_does e does) refl
          | inr passes ↦ elim (cases_Bool (decides g B b e)) [
            | inl does ↦ rw (does, passes) (sym (one ∙ ap (λ x. if x then is_allow e.kind else is_allowed_by (first g A (all_with_copies ms es) b)) (copy_does e passes does)))
            | inr too ↦ rw (passes, too) (other ∙ ap (λ x. if x then is_allow e.kind else is_allowed_by (first g B (all_with_copies ms es) b)) copies
                ∙ ap (λ x. if list_any (λ (m : MarkerOf). speaks_of e m && decides g A b (record e { sid = m.marker })) ms then is_allow e.kind else x) rest ∙ sym one)
          ]
        ]

-- ---- the markers of a list

record IsProper (m : MarkerOf) : Type 0 where
  is_one : is_marker m.marker ≡ true
  other : is_marker m.sid ≡ false
  own : same_sid m.sid owner_rights ≡ false

are_proper : (c : ContextValue) (marks rest : List TypedAce) (n : ℕ) → AllByRecursion (CanStand c) rest
    → AllByRecursion IsProper (markers_from c marks n rest)
are_proper c marks [] n can = tt
are_proper c marks (e ∷ rest) n can =
    let others = are_proper c marks rest (n + 1) can.1 in
    elim (cases_Bool (mark_place marks e == n)) [
      | inl is ↦ rw is (record { is_one = refl; other = can.0.other; own = can.0.own }, others)
      | inr isnt ↦ rw isnt others
    ]

middle : (front : List MarkerOf) (m : MarkerOf) (back : List MarkerOf) → AllByRecursion IsProper (front ++ m ∷ back) → IsProper m
middle [] m back all = all.0
middle (x ∷ front) m back all = middle front m back all.1

apart_from : (s : SidValue) → is_marker s ≡ false → (m : SidValue) → is_marker m ≡ true → same_sid s m ≡ false
apart_from s other m is_one = elim (cases_Bool (same_sid s m)) [
  | inl is ↦ absurd (true≢false (sym is_one ∙ sym (ap is_marker (same_sid-true s m is)) ∙ other))
  | inr isnt ↦ isnt
]

all_apart : (s : SidValue) → is_marker s ≡ false → (ms : List MarkerOf) → AllByRecursion IsProper ms
    → AllByRecursion (λ (m : MarkerOf). same_sid s m.marker ≡ false) ms
all_apart s other [] all = tt
all_apart s other (m ∷ ms) all = (apart_from s other m.marker all.0.is_one, all_apart s other ms all.1)

no_owner_rights : (m : SidValue) → is_marker m ≡ true → same_sid m owner_rights ≡ false
no_owner_rights m is_one = elim (cases_Bool (same_sid m owner_rights)) [
  | inl is ↦ absurd (true≢false (sym is_one ∙ ap is_marker (same_sid-true m owner_rights is)))
  | inr isnt ↦ isnt
]

-- ---- the token

module _ (s : SidValue) (t : TokenValue) (owner : Option SidValue) where
  not_brought : (kind : AceKind) (x : SidValue) → same_sid s x ≡ false → stands_for (with_group s t) kind x ≡ stands_for t kind x
  not_brought kind x isnt = rw isnt refl

  same_owner : (o : Option SidValue) → option_map_or (same_sid s) o false ≡ false → (kind : AceKind)
      → stands_for_subject (with_group s t) kind o ≡ stands_for_subject t kind o
  same_owner None other kind = refl
  same_owner (Some o) other kind = not_brought kind o other

  same_others : option_map_or (same_sid s) owner false ≡ false → (kind : AceKind) (x : SidValue) → same_sid s x ≡ false
      → applies (with_group s t) owner kind x ≡ applies t owner kind x
  same_others other kind x isnt = elim (cases_Bool (same_sid x owner_rights)) [
    | inl is ↦ rw is (same_owner owner other kind)
    | inr other_sid ↦ rw other_sid (not_brought kind x isnt)
  ]

  is_brought : same_sid s owner_rights ≡ false → (kind : AceKind) → applies (with_group s t) owner kind s ≡ true
  is_brought own Allow = rw own (grind (arith, same_sid-itself s))
  is_brought own Deny = rw own (grind (arith, same_sid-itself s))

is_among : (front : List MarkerOf) (m : MarkerOf) (back : List MarkerOf) (p : MarkerOf → Bool) → p m ≡ true → list_any p (front ++ m ∷ back) ≡ true
is_among front m back p is =
    list_any-append p front (m ∷ back) ∙ ap (λ x. list_any p front || (x || list_any p back)) is ∙ or-true _

module _ (front : List MarkerOf) (m : MarkerOf) (back : List MarkerOf) (proper : AllByRecursion IsProper (front ++ m ∷ back))
    (allows : m.denies ≡ false) (owner : Option SidValue) (other : option_map_or (same_sid m.sid) owner false ≡ false)
    (t : TokenValue) (has : stands_for t Allow m.marker ≡ true) (es : List Ace) (g : MappingValue) where
  has_it : (kind : AceKind) → applies t owner kind m.marker ≡ true
  has_it kind = rw (no_owner_rights m.marker (middle front m back proper).is_one) (stands_as t m.marker kind false (grind (arith)) has)

  same_granted : (b : ℕ) → is_granted owner (Some (all_with_copies (front ++ m ∷ back) es)) g (with_group m.sid t) b
      ≡ is_granted owner (Some (all_with_copies (front ++ m ∷ back) es)) g t b
  same_granted b =
      let mine = middle front m back proper in
      let listed = same_allowed g (applies t owner) (applies (with_group m.sid t) owner) b m.sid (same_others m.sid t owner other)
      (is_brought m.sid t owner mine.own) m (front ++ m ∷ back) (is_among front m back) refl allows has_it (all_apart m.sid mine.other (front ++ m ∷ back) proper) es in
      grind (arith, listed, same_owner m.sid t owner owner other Allow)

pub markers_bring_their_sids : MarkersBringTheirSids
markers_bring_their_sids c all free front m back are allows owner other t has es g r =
    let proper = subst (AllByRecursion IsProper) are (are_proper c (conditionals_of all) (conditionals_of all) 0 (can_stand c all free)) in
    let list = all_with_copies (front ++ m ∷ back) es in
    same_verdicts owner list list g (with_group m.sid t) t (same_granted front m back proper allows owner other t has es g) r
