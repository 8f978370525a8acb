-- Chains of a log, what a longer log has of them, and the two steps of the word.
use Rattle.std.proofs.Common.{◌≡◌, ◌≢◌, ℕ, ◌<◌, ◌==◌, Bool, true, false, List, [], ◌∷◌, ◌++◌, length, slice_set, None}
use Rattle.std.proofs.Common.{refl, ap, sym, ◌∙◌, subst, arith, inl, inr}
use Rattle.std.proofs.Common.{append_assoc, length-append, length-set, get_or-set_same, get_or-set_other}
use Rattle.std.proofs.lemmas.List.{append-nil, get_or_append_left}
use Rattle.std.proofs.lemmas.Bool.Decides.{nat_tests}
use mathlib.Core.List.{IsPrefix}
use prog.Atomic.{either}
use Rattle.logbook.specs.Pages.{Cell, Nib, Moves, adds, cell, gives, may_write, no_nib, step}
use Rattle.sd_history.specs.declared.entry.Entry.{Entry}
use Rattle.sd_history.specs.Chains.{AllHome, Appends, Comparable, IsHome, IsKept, MakesPen, end_of, entry, items_from}

module _ {T : Type 0} where
  -- the rest of a log adds what it has of the chain, from where the chain ended before
  items_next : (k : ℕ) (x : Entry T) (xs ys : List (Entry T)) (b : Bool) → (x.own == k) ≡ b
      → items_from x.next (xs ++ ys) ≡ items_from x.next xs ++ items_from (end_of x.next xs) ys
      → items_from k (xs ++ ys) ≡ items_from k xs ++ items_from (end_of k xs) ys
      → items_from k (x ∷ xs ++ ys) ≡ items_from k (x ∷ xs) ++ items_from (end_of k (x ∷ xs)) ys
  items_next k x xs ys true is then other =
      rw is
      (ap (λ w. x.what ++ w) then ∙ sym (append_assoc x.what (items_from x.next xs) (items_from (end_of x.next xs) ys)))
  items_next k x xs ys false is then other = rw is other

  pub items_append : (k : ℕ) (xs ys : List (Entry T))
      → items_from k (xs ++ ys) ≡ items_from k xs ++ items_from (end_of k xs) ys
  items_append k [] ys = refl
  items_append k (x ∷ xs) ys = items_next k x xs ys (x.own == k) refl (items_append x.next xs ys) (items_append k xs ys)

  end_next : (k : ℕ) (x : Entry T) (xs ys : List (Entry T)) (b : Bool) → (x.own == k) ≡ b
      → end_of x.next (xs ++ ys) ≡ end_of (end_of x.next xs) ys → end_of k (xs ++ ys) ≡ end_of (end_of k xs) ys
      → end_of k (x ∷ xs ++ ys) ≡ end_of (end_of k (x ∷ xs)) ys
  end_next k x xs ys true is then other = rw is then
  end_next k x xs ys false is then other = rw is other

  pub end_append : (k : ℕ) (xs ys : List (Entry T)) → end_of k (xs ++ ys) ≡ end_of (end_of k xs) ys
  end_append k [] ys = refl
  end_append k (x ∷ xs) ys = end_next k x xs ys (x.own == k) refl (end_append x.next xs ys) (end_append k xs ys)

  -- a prefix of a log has a prefix of each of its chains
  pub items_prefix : (k : ℕ) (xs ys : List (Entry T)) → IsPrefix xs ys → IsPrefix (items_from k xs) (items_from k ys)
  items_prefix k xs ys p = (items_from (end_of k xs) p.0, sym (items_append k xs p.0) ∙ ap (items_from k) p.1)

  -- of two prefixes of one list one is a prefix of the other
  pub comparable : (xs ys zs : List T) → IsPrefix xs zs → IsPrefix ys zs → Comparable xs ys
  comparable [] ys zs p q = inl (ys, refl)
  comparable (x ∷ xs) [] zs p q = inr (x ∷ xs, refl)
  comparable (x ∷ xs) (y ∷ ys) [] p q = absurd (cc (p.1))
  comparable (x ∷ xs) (y ∷ ys) (z ∷ zs) p q =
      let heads : x ≡ y = cc (p.1, q.1) in
      elim (comparable xs ys zs (p.0, cc (p.1)) (q.0, cc (q.1))) [
        | inl r ↦ inl (r.0, cc (heads, r.1))
        | inr r ↦ inr (r.0, cc (heads, r.1))
      ]

  -- with a pen that is not used up nothing was written
  pub skips : (cells : List Cell) (k : ℕ) (log : List (Entry T)) → AllHome cells log → (cell cells k).1 ≡ false
      → (items_from k log ≡ []) × (end_of k log ≡ k)
  skips cells k [] home away = (refl, refl)
  skips cells k (x ∷ xs) home away =
      let rest = skips cells k xs home.1 away in
      let other : x.own ≢ k = λ e. absurd (cc (home.0.1, away, e)) in
      let is : (x.own == k) ≡ false = grind (arith, nat_tests) in
      rw is rest

  home_wherever : (cs ds : List Cell) → ((k : ℕ) → IsHome cs k → IsHome ds k)
      → (log : List (Entry T)) → AllHome cs log → AllHome ds log
  home_wherever cs ds keeps [] home = tt
  home_wherever cs ds keeps (x ∷ xs) home = (keeps x.own home.0, home_wherever cs ds keeps xs home.1)

  home_append : (cs : List Cell) (xs ys : List (Entry T)) → AllHome cs xs → AllHome cs ys → AllHome cs (xs ++ ys)
  home_append cs [] ys h g = g
  home_append cs (x ∷ xs) ys h g = (h.0, home_append cs xs ys h.1 g)

  home_rest : (cs : List Cell) (xs ys : List (Entry T)) → AllHome cs (xs ++ ys) → AllHome cs ys
  home_rest cs [] ys h = h
  home_rest cs (x ∷ xs) ys h = home_rest cs xs ys h.1

  abbrev pub shown : List (Entry T) → List (Entry T)
  shown log = []

  abbrev pub moved : List (Entry T) → List (Entry T) → ℕ → Type 0
  moved xs ys n = Unit {0}

home_here : (cs : List Cell) (k n : ℕ) → k < length cs → IsHome (slice_set cs k (n, true)) k
home_here cs k n in_range = (
  rw (length-set cs k (n, true)) in_range,
  ap (λ (c : Cell). c.1) (get_or-set_same cs k (n, true) (0, false) in_range),
)

home_set_by : (cs : List Cell) (j k n : ℕ) (b : Bool) → (j == k) ≡ b → IsHome cs j → IsHome (slice_set cs k (n, true)) j
home_set_by cs j k n true is home =
    let same : k ≡ j = grind (arith, nat_tests) in
    subst (λ i. IsHome (slice_set cs i (n, true)) j) (sym same) (home_here cs j n home.0)
home_set_by cs j k n false is home =
    let other : j ≢ k = grind (arith, nat_tests) in (
      rw (length-set cs k (n, true)) home.0,
      ap (λ (c : Cell). c.1) (get_or-set_other cs k j (n, true) (0, false) other) ∙ home.1,
    )

home_set : (cs : List Cell) (k n j : ℕ) → IsHome cs j → IsHome (slice_set cs k (n, true)) j
home_set cs k n j = home_set_by cs j k n (j == k) refl

home_push : (cs : List Cell) (c : Cell) (j : ℕ) → IsHome cs j → IsHome (cs ++ c ∷ []) j
home_push cs c j home = (
  omega (arith, length-append cs (c ∷ []), home.0),
  ap (λ (d : Cell). d.1) (get_or_append_left cs (c ∷ []) (0, false) j home.0) ∙ home.1,
)

module _ {T : Type 0} where
  -- the step that makes a pen keeps the rule, and makes one
  pub grows_moves : (v : List (Entry T))
      → Moves IsKept shown moved 0 (v, (no_nib, None)) (λ n. either (n == 0) 0 n)
      (MakesPen (step 0 0 0 (entry [] 0 0)) (v, (no_nib, None)))
  grows_moves v cs log kept pre away =
      let n : ℕ = either ((cell cs 0).0 == 0) 0 (cell cs 0).0 in
      let ds : List Cell = slice_set cs 0 (n, true) in
      let keeps : (k : ℕ) → IsHome cs k → IsHome (ds ++ (0, false) ∷ []) k =
      λ k h. home_push ds (0, false) k (home_set cs 0 n k h) in (
        kept.0.0,
        kept.0.1,
        (
          adds,
          [],
          None,
          tt,
          (
            keeps 0 kept.0,
            home_append (ds ++ (0, false) ∷ []) log [] (home_wherever cs (ds ++ (0, false) ∷ []) keeps log kept.1) tt,
          ),
          inl (refl, refl),
          (length cs, refl),
        ),
      )

  -- what is appended comes right after all that was seen of the chain
  appended : (cs : List Cell) (v log : List (Entry T)) (e : Entry T) (k : ℕ)
      → AllHome cs log → (cell cs e.own).1 ≡ false → IsPrefix v log → end_of k v ≡ e.own
      → (items_from k (log ++ e ∷ []) ≡ items_from k v ++ e.what) × (end_of k (log ++ e ∷ []) ≡ e.next)
  appended cs v log e k home away pre ends =
      let more : List (Entry T) = pre.0 ++ e ∷ [] in
      let whole : v ++ more ≡ log ++ e ∷ [] = sym (append_assoc v pre.0 (e ∷ [])) ∙ ap (λ w. w ++ e ∷ []) pre.1 in
      let behind = skips cs e.own pre.0 (home_rest cs v pre.0 (subst (AllHome cs) (sym pre.1) home)) away in
      let is : (e.own == e.own) ≡ true = grind (arith, nat_tests) in
      let one : (items_from e.own (e ∷ []) ≡ e.what) × (end_of e.own (e ∷ []) ≡ e.next) =
      rw is (append-nil e.what, refl) in
      let items : items_from (end_of k v) more ≡ e.what =
      ap (λ j. items_from j more) ends ∙ (items_append e.own pre.0 (e ∷ []) ∙ rw (behind.0, behind.1) one.0) in
      let end : end_of (end_of k v) more ≡ e.next =
      ap (λ j. end_of j more) ends
      ∙ (end_append e.own pre.0 (e ∷ []) ∙ (ap (λ j. end_of j (e ∷ [])) behind.1 ∙ one.1)) in (
        sym (ap (items_from k) whole) ∙ (items_append k v more ∙ ap (λ w. items_from k v ++ w) items),
        sym (ap (end_of k) whole) ∙ (end_append k v more ∙ end),
      )

  -- the step that writes keeps the rule, and appends to the chain at whose end its pen is
  pub writes_moves : (v : List (Entry T)) (p : Nib) (e : Entry T) → p.right ≡ may_write → e.own ≡ p.key
      → Moves IsKept shown moved 0 (v, (p, None)) (λ n. either (n == 0) 0 n) (Appends (step 0 0 0 e) (v, (p, None)))
  writes_moves v p e right own cs log kept pre away =
      let far = away right in
      let n : ℕ = either ((cell cs 0).0 == 0) 0 (cell cs 0).0 in
      let ds : List Cell = slice_set cs 0 (n, true) in
      let es : List Cell = slice_set ds p.key (p.value, true) in
      let keeps : (k : ℕ) → IsHome cs k → IsHome es k = λ k h. home_set ds p.key p.value k (home_set cs 0 n k h) in
      let here : IsHome es p.key = home_here ds p.key p.value (rw (length-set cs 0 (n, true)) far.0) in (
        kept.0.0,
        kept.0.1,
        (
          gives,
          e ∷ [],
          None,
          right,
          (
            keeps 0 kept.0,
            home_append es log (e ∷ []) (home_wherever cs es keeps log kept.1) (subst (IsHome es) (sym own) here, tt),
          ),
          inl (refl, refl),
          λ k ends. appended cs v log e k kept.1 (ap (λ j. (cell cs j).1) own ∙ far.1) pre ends,
        ),
      )
