-- What the entries tell by propagation is what they tell by the chains of the leaves.
use Rattle.std.proofs.Common.{◌≡◌, ◌∙◌, inl, inr, ℕ, ◌+◌, ◌≤◌, zero, suc, Bool, true, false, not, ◌||◌, List, [], ◌∷◌, ◌++◌, Option, Some, None, length, refl, sym, ap, subst, arith}
use Rattle.std.specs.Prelude.{if◌then◌else◌}
use Rattle.std.proofs.lemmas.Bool.{cases_Bool, false≢true, not-true, or_cases}
use Rattle.std.proofs.lemmas.List.{append-nil, append_assoc}
use Rattle.std.specs.List.{list_all, list_any}
use Rattle.sd_acl.specs.declared.ace.AceKind.{AceKind}
use Rattle.sd_acl.specs.declared.ace.AceKind.TheVariants.{Allow, Deny}
use Rattle.sd_specialize.specs.Entry.{allows_type}
use Rattle.sd_whole.specs.declared.types.Guid.{Guid}
use Rattle.sd_types.proofs.Chains.{IsTree, is_tree}
use Rattle.sd_types.proofs.Leaves.{above_is_inner, all_by_children, any_by_children, child_from, has_leaf, leaf_from, longest, other_is_not_asked, reached_is_asked}
use Rattle.sd_types.proofs.Lists.{all_each, all_same, any_one, any_same, clash, each_all, fails_one, one_any, or_right, same_tests}
use Rattle.sd_types.specs.Laws.{EachListIsGoneThrough, told_by_chains}
use Rattle.sd_types.specs.Propagation.{Allows, Denies, Says, Saying, Tells, Told, allows, children, denies, first_for, is_above, is_reached, nothing_told}
use Rattle.sd_types.specs.Tree.{Chain, IsNode, chains_of, leaves_under}
use Rattle.sd_types.specs.declared.tree.TypeNode.{TypeNode}

-- ---- one entry more, by the chain

-- what is decided with one entry more, which is for the node or isn't
abbrev with : Option AceKind → Bool → AceKind → Option AceKind
with (Some j) b k = Some j
with None true k = Some k
with None false k = None

module _ (b : Bool) (k : AceKind) where
  first_one : (if b then Some k else None) ≡ with None b k
  first_one = elim b as (λ x. (if x then Some k else None) ≡ with None x k) [ true ↦ refl | false ↦ refl ]

  one_before : (c : Bool) (j : AceKind) (x y : Option AceKind) → x ≡ with y b k
      → (if c then Some j else x) ≡ with (if c then Some j else y) b k
  one_before true j x y h = refl
  one_before false j x y h = h

pushed : (n : Chain) (es : List Saying) (e : Saying) → first_for n (es ++ e ∷ []) ≡ with (first_for n es) (allows_type n e.type) e.kind
pushed n [] e = first_one (allows_type n e.type) e.kind
pushed n (x ∷ es) e =
    one_before (allows_type n e.type) e.kind (allows_type n x.type) x.kind (first_for n (es ++ e ∷ [])) (first_for n es) (pushed n es e)

with_other : (x : Option AceKind) (k : AceKind) → with x false k ≡ x
with_other None k = refl
with_other (Some j) k = refl

allow_denies_nothing : (x : Option AceKind) (b : Bool) → denies (with x b Allow) ≡ denies x
allow_denies_nothing (Some j) b = refl
allow_denies_nothing None true = refl
allow_denies_nothing None false = refl

deny_allows_nothing : (x : Option AceKind) (b : Bool) → allows (with x b Deny) ≡ allows x
deny_allows_nothing (Some j) b = refl
deny_allows_nothing None true = refl
deny_allows_nothing None false = refl

-- with an allow the node is allowed unless it was denied, and with a deny denied unless it was allowed
allowed_now : (x : Option AceKind) → allows (with x true Allow) ≡ not (denies x)
allowed_now None = refl
allowed_now (Some Allow) = refl
allowed_now (Some Deny) = refl

denied_now : (x : Option AceKind) → denies (with x true Deny) ≡ not (allows x)
denied_now None = refl
denied_now (Some Allow) = refl
denied_now (Some Deny) = refl

allows_not_denies : (x : Option AceKind) → allows x ≡ true → denies x ≡ false
allows_not_denies None h = absurd (false≢true h)
allows_not_denies (Some Allow) h = refl
allows_not_denies (Some Deny) h = absurd (false≢true h)

denies_not_allows : (x : Option AceKind) → denies x ≡ true → allows x ≡ false
denies_not_allows None h = absurd (false≢true h)
denies_not_allows (Some Allow) h = absurd (false≢true h)
denies_not_allows (Some Deny) h = refl

-- ---- an entry that is for all of some leaves

module _ (o new : Chain → Option AceKind) (leaves : List Chain) where
  all_allowed : ((n : Chain) → IsNode leaves n → new n ≡ with (o n) true Allow)
      → list_all (λ n. allows (new n)) leaves ≡ (list_all (λ n. allows (o n)) leaves || not (list_any (λ n. denies (o n)) leaves))
  all_allowed is =
      let now : Chain → Bool = λ n. allows (new n) in
      let was : Chain → Bool = λ n. allows (o n) in
      let barred : Chain → Bool = λ n. denies (o n) in
      let are : (n : Chain) → IsNode leaves n → now n ≡ not (barred n) = λ n at. ap allows (is n at) ∙ allowed_now (o n) in
      same_tests (list_all now leaves) (list_all was leaves || not (list_any barred leaves))
      (λ h. elim (cases_Bool (list_any barred leaves)) [
        | inl some ↦
            let n = any_one barred leaves some in
            absurd (clash (now n.0) (all_each now leaves h n.0 n.1) (are n.0 n.1 ∙ ap not n.2))
        | inr none ↦ or_right (list_all was leaves) (not (list_any barred leaves)) (ap not none)
      ])
      (λ h. elim (or_cases (list_all was leaves) (not (list_any barred leaves)) h) [
        | inl all ↦ each_all now leaves (λ n at. are n at ∙ ap not (allows_not_denies (o n) (all_each was leaves all n at)))
        | inr none ↦ each_all now leaves (λ n at. are n at ∙ elim (cases_Bool (barred n)) [
          | inl one ↦ absurd (clash (list_any barred leaves) (one_any barred leaves n at one) (not-true (list_any barred leaves) none))
          | inr free ↦ ap not free
        ])
      ])

  one_denied : ((n : Chain) → IsNode leaves n → new n ≡ with (o n) true Deny)
      → list_any (λ n. denies (new n)) leaves ≡ (list_any (λ n. denies (o n)) leaves || not (list_all (λ n. allows (o n)) leaves))
  one_denied is =
      let now : Chain → Bool = λ n. denies (new n) in
      let was : Chain → Bool = λ n. denies (o n) in
      let kept : Chain → Bool = λ n. allows (o n) in
      let are : (n : Chain) → IsNode leaves n → now n ≡ not (kept n) = λ n at. ap denies (is n at) ∙ denied_now (o n) in
      same_tests (list_any now leaves) (list_any was leaves || not (list_all kept leaves))
      (λ h.
      let n = any_one now leaves h in
      or_right (list_any was leaves) (not (list_all kept leaves)) (elim (cases_Bool (list_all kept leaves)) [
        | inl all ↦ absurd (clash (now n.0) n.2 (are n.0 n.1 ∙ ap not (all_each kept leaves all n.0 n.1)))
        | inr some ↦ ap not some
      ]))
      (λ h. elim (or_cases (list_any was leaves) (not (list_all kept leaves)) h) [
        | inl one ↦
            let n = any_one was leaves one in
            one_any now leaves n.0 n.1 (are n.0 n.1 ∙ ap not (denies_not_allows (o n.0) n.2))
        | inr some ↦
            let n = fails_one kept leaves (not-true (list_all kept leaves) some) in
            one_any now leaves n.0 n.1 (are n.0 n.1 ∙ ap not n.2)
      ])

-- ---- one entry more, by propagation

module _ (tree : List Chain) (is : IsTree tree) where
  module _ (es : List Saying) (type : Option Guid) where
    -- what the chains tell with one entry more
    reached_by : (k : AceKind) (m : Chain) → is_reached tree type m ≡ true → (n : Chain) → IsNode (leaves_under tree m) n
        → first_for n (es ++ record { kind = k; type = type } ∷ []) ≡ with (first_for n es) true k
    reached_by k m h n at =
        pushed n es (record { kind = k; type = type })
        ∙ ap (λ b. with (first_for n es) b k) (reached_is_asked tree is type m n h (leaf_from tree m n at).2)

    other_by : (k : AceKind) (m : Chain) → is_reached tree type m ≡ false → is_above tree type m ≡ false
        → (n : Chain) → IsNode (leaves_under tree m) n → first_for n (es ++ record { kind = k; type = type } ∷ []) ≡ first_for n es
    other_by k m out apart n at =
        let l = leaf_from tree m n at in
        pushed n es (record { kind = k; type = type })
        ∙ (ap (λ b. with (first_for n es) b k) (other_is_not_asked tree is type m n out apart l.0 l.2)
        ∙ with_other (first_for n es) k)

    allow_says : Allows tree type (told_by_chains tree es) (told_by_chains tree (es ++ record { kind = Allow; type = type } ∷ []))
    allow_says =
        let new : Chain → Option AceKind = λ n. first_for n (es ++ record { kind = Allow; type = type } ∷ []) in
        let old : Chain → Option AceKind = λ n. first_for n es in
        record {
          down = λ m at h. all_allowed old new (leaves_under tree m) (reached_by Allow m h);
          up = λ m at out h. all_by_children tree is (λ n. allows (new n)) m (above_is_inner tree is type m h);
          other = λ m at out apart. all_same (λ n. allows (new n)) (λ n. allows (old n)) (leaves_under tree m)
              (λ n leaf. ap allows (other_by Allow m out apart n leaf));
          denied = λ m at. any_same (λ n. denies (new n)) (λ n. denies (old n)) (leaves_under tree m)
              (λ n leaf. ap denies (pushed n es (record { kind = Allow; type = type })) ∙ allow_denies_nothing (old n) (allows_type n type));
        }

    deny_says : Denies tree type (told_by_chains tree es) (told_by_chains tree (es ++ record { kind = Deny; type = type } ∷ []))
    deny_says =
        let new : Chain → Option AceKind = λ n. first_for n (es ++ record { kind = Deny; type = type } ∷ []) in
        let old : Chain → Option AceKind = λ n. first_for n es in
        record {
          down = λ m at h. one_denied old new (leaves_under tree m) (reached_by Deny m h);
          up = λ m at out h. any_by_children tree is (λ n. denies (new n)) m (above_is_inner tree is type m h);
          other = λ m at out apart. any_same (λ n. denies (new n)) (λ n. denies (old n)) (leaves_under tree m)
              (λ n leaf. ap denies (other_by Deny m out apart n leaf));
          granted = λ m at. all_same (λ n. allows (new n)) (λ n. allows (old n)) (leaves_under tree m)
              (λ n leaf. ap allows (pushed n es (record { kind = Deny; type = type })) ∙ deny_allows_nothing (old n) (allows_type n type));
        }

  says : (es : List Saying) (k : AceKind) (type : Option Guid)
      → Says tree k type (told_by_chains tree es) (told_by_chains tree (es ++ record { kind = k; type = type } ∷ []))
  says es Allow type = allow_says es type
  says es Deny type = deny_says es type

  -- ---- what is told of the nodes is one

  abbrev Agree : Told → Told → Type 0
  Agree a b = (n : Chain) → IsNode tree n → (a.granted n ≡ b.granted n) × (a.denied n ≡ b.denied n)

  module _ (type : Option Guid) (old same new next : Told) (agree : Agree old same) where
    one_allows : Allows tree type old new → Allows tree type same next → (fuel : ℕ) (m : Chain) → IsNode tree m
        → (longest tree).0 ≤ length m + fuel → new.granted m ≡ next.granted m
    one_allows a b zero m at far = let less = (longest tree).1 m at in absurd (omega (arith, less, far))
    one_allows a b (suc fuel) m at far = elim (cases_Bool (is_reached tree type m)) [
      | inl h ↦
          a.down m at h
          ∙ (ap (λ x. x || not (old.denied m)) (agree m at).0 ∙ (ap (λ x. same.granted m || not x) (agree m at).1 ∙ sym (b.down m at h)))
      | inr out ↦ elim (cases_Bool (is_above tree type m)) [
        | inl h ↦
            a.up m at out h
            ∙ (all_same new.granted next.granted (children tree m) (λ k child.
            let c = child_from tree m k child in
            let long = c.2 in
            one_allows a b fuel k c.0 (omega (arith, long, far)))
            ∙ sym (b.up m at out h))
        | inr apart ↦ a.other m at out apart ∙ ((agree m at).0 ∙ sym (b.other m at out apart))
      ]
    ]

    one_denies : Denies tree type old new → Denies tree type same next → (fuel : ℕ) (m : Chain) → IsNode tree m
        → (longest tree).0 ≤ length m + fuel → new.denied m ≡ next.denied m
    one_denies a b zero m at far = let less = (longest tree).1 m at in absurd (omega (arith, less, far))
    one_denies a b (suc fuel) m at far = elim (cases_Bool (is_reached tree type m)) [
      | inl h ↦
          a.down m at h
          ∙ (ap (λ x. x || not (old.granted m)) (agree m at).1 ∙ (ap (λ x. same.denied m || not x) (agree m at).0 ∙ sym (b.down m at h)))
      | inr out ↦ elim (cases_Bool (is_above tree type m)) [
        | inl h ↦
            a.up m at out h
            ∙ (any_same new.denied next.denied (children tree m) (λ k child.
            let c = child_from tree m k child in
            let long = c.2 in
            one_denies a b fuel k c.0 (omega (arith, long, far)))
            ∙ sym (b.up m at out h))
        | inr apart ↦ a.other m at out apart ∙ ((agree m at).1 ∙ sym (b.other m at out apart))
      ]
    ]

    one_says : (k : AceKind) → Says tree k type old new → Says tree k type same next → Agree new next
    one_says Allow a b m at =
        (one_allows a b (longest tree).0 m at (omega arith), a.denied m at ∙ ((agree m at).1 ∙ sym (b.denied m at)))
    one_says Deny a b m at =
        (a.granted m at ∙ ((agree m at).0 ∙ sym (b.granted m at)), one_denies a b (longest tree).0 m at (omega arith))

  -- what follows from what is told follows from what agrees with it
  module _ (type : Option Guid) (old same new : Told) (agree : Agree old same) where
    says_from : (k : AceKind) → Says tree k type old new → Says tree k type same new
    says_from Allow a = record {
      down = λ m at h. a.down m at h
          ∙ (ap (λ x. x || not (old.denied m)) (agree m at).0 ∙ ap (λ x. same.granted m || not x) (agree m at).1);
      up = a.up;
      other = λ m at out apart. a.other m at out apart ∙ (agree m at).0;
      denied = λ m at. a.denied m at ∙ (agree m at).1;
    }
    says_from Deny a = record {
      down = λ m at h. a.down m at h
          ∙ (ap (λ x. x || not (old.granted m)) (agree m at).1 ∙ ap (λ x. same.denied m || not x) (agree m at).0);
      up = a.up;
      other = λ m at out apart. a.other m at out apart ∙ (agree m at).1;
      granted = λ m at. a.granted m at ∙ (agree m at).0;
    }

  -- ---- all entries

  -- by the chains nothing is told of a node before the first entry
  leaf_says_nothing : (m : Chain) → IsNode tree m → list_all (λ (n : Chain). false) (leaves_under tree m) ≡ false
  leaf_says_nothing m at =
      let p : Chain → Bool = λ n. false in
      let leaf = has_leaf tree (longest tree).0 (longest tree).1 (longest tree).0 m at (omega arith) in
      elim (cases_Bool (list_all p (leaves_under tree m))) [
        | inl all ↦ absurd (false≢true (all_each p (leaves_under tree m) all leaf.0 leaf.1))
        | inr none ↦ none
      ]

  none_denied : (leaves : List Chain) → list_any (λ (n : Chain). false) leaves ≡ false
  none_denied [] = refl
  none_denied (n ∷ leaves) = none_denied leaves

  at_first : Agree (told_by_chains tree []) nothing_told
  at_first m at = (leaf_says_nothing m at, none_denied (leaves_under tree m))

  -- what propagation tells, from what the chains tell of the entries before
  told_so : (es before : List Saying) (old new : Told) → Agree old (told_by_chains tree before) → Tells tree es old new
      → Agree new (told_by_chains tree (before ++ es))
  told_so [] before old new agree same = λ m at.
      let x = same m at in
      let y = agree m at in (
        x.0 ∙ (y.0 ∙ sym (ap (λ (l : List Saying). (told_by_chains tree l).granted m) (append-nil before))),
        x.1 ∙ (y.1 ∙ sym (ap (λ (l : List Saying). (told_by_chains tree l).denied m) (append-nil before))),
      )
  told_so (e ∷ es) before old new agree steps =
      let next = one_says e.type old (told_by_chains tree before) steps.0 (told_by_chains tree (before ++ e ∷ [])) agree e.kind
      steps.1 (says before e.kind e.type) in
      subst (λ (l : List Saying). Agree new (told_by_chains tree l)) (append_assoc before (e ∷ []) es)
      (told_so es (before ++ e ∷ []) steps.0 new next steps.2)

  gone_through : (es before : List Saying) → Tells tree es (told_by_chains tree before) (told_by_chains tree (before ++ es))
  gone_through [] before = λ m at. (
    ap (λ (l : List Saying). (told_by_chains tree l).granted m) (append-nil before),
    ap (λ (l : List Saying). (told_by_chains tree l).denied m) (append-nil before),
  )
  gone_through (e ∷ es) before = (
    told_by_chains tree (before ++ e ∷ []),
    says before e.kind e.type,
    subst (λ (l : List Saying). Tells tree es (told_by_chains tree (before ++ e ∷ [])) (told_by_chains tree l))
        (append_assoc before (e ∷ []) es) (gone_through es (before ++ e ∷ [])),
  )

  from_nothing : (es : List Saying) (new : Told) → Tells tree es (told_by_chains tree []) new → Tells tree es nothing_told new
  from_nothing [] new same = λ m at.
      ((same m at).0 ∙ (at_first m at).0, (same m at).1 ∙ (at_first m at).1)
  from_nothing (e ∷ es) new steps =
      (steps.0, says_from e.type (told_by_chains tree []) nothing_told steps.0 at_first e.kind steps.1, steps.2)

  agreed : (m : Chain) → IsNode tree m → (nothing_told.granted m ≡ (told_by_chains tree []).granted m)
      × (nothing_told.denied m ≡ (told_by_chains tree []).denied m)
  agreed m at = (sym (at_first m at).0, sym (at_first m at).1)

pub propagation_is_the_same : (nodes : List TypeNode) (es : List Saying) (told : Told)
    → Tells (chains_of nodes) es nothing_told told → (m : Chain) → IsNode (chains_of nodes) m
    → told.granted m ≡ (told_by_chains (chains_of nodes) es).granted m
propagation_is_the_same nodes es told steps m at =
    (told_so (chains_of nodes) (is_tree nodes) es [] nothing_told told (agreed (chains_of nodes) (is_tree nodes)) steps m at).0

pub each_list_is_gone_through : EachListIsGoneThrough
each_list_is_gone_through nodes es =
    from_nothing (chains_of nodes) (is_tree nodes) es (told_by_chains (chains_of nodes) es) (gone_through (chains_of nodes) (is_tree nodes) es [])
