-- Lists of entries whose keys strictly rise, by their places: what is found in them, and what one more entry, a new
-- value or one entry less makes of them.
use Rattle.sd_edit.proofs.Cited.{Bool, Equal, Greater, IsTotalOrder, Less, List, None, Ordering, Some, T, [], ap, arith, below_all, by_order, cond, eq_by_cmp, false, find, get_or, is_lt, is_sorted, length, not, ordering_reverse, put, refl, remove, set, suc, tied_itself, true, where_key, zero, ℕ, ◌&&◌, ◌<◌, ◌∙◌, ◌∷◌, ◌≡◌, ◌≤◌}
use Rattle.std.specs.Ordering.{is_eq}
use Rattle.std.specs.List.{insert}

front : (a b : Bool) → T (a && b) → T a
front true b h = tt
front false b h = h

back : (a b : Bool) → T (a && b) → T b
back true b h = h
back false b h = absurd h

less : (r : Ordering) → T (is_lt r) → r ≡ Less
less Less h = refl
less Equal h = absurd h
less Greater h = absurd h

module _ {K : Type 0} {R : K → K → Ordering} (o : IsTotalOrder R) where
  -- the other way round
  pub greater_from_less : (x y : K) → R x y ≡ Less → R y x ≡ Greater
  greater_from_less x y h = o.antisymm y x ∙ ap ordering_reverse h

  pub less_from_greater : (x y : K) → R x y ≡ Greater → R y x ≡ Less
  less_from_greater x y h = o.antisymm y x ∙ ap ordering_reverse h

module _ {K X : Type 0} {R : K → K → Ordering} (o : IsTotalOrder R) where
  -- a key below all of them is below each
  below_each : (x : K) (es : List (K × X)) → T (below_all R x es) → (k : ℕ) (d : K × X) → k < length es → R x (get_or es k d).0 ≡ Less
  below_each x [] h k d lt = absurd (omega arith)
  below_each x (e ∷ es) h zero d lt = less _ (front _ _ h)
  below_each x (e ∷ es) h (suc k) d lt = below_each x es (back _ _ h) k d (omega arith)

  -- the keys rise from place to place
  pub rises : (es : List (K × X)) → T (is_sorted R es) → (i j : ℕ) (d : K × X) → i < j → j < length es → R (get_or es i d).0 (get_or es j d).0 ≡ Less
  rises [] h i j d lt in' = absurd (omega arith)
  rises (e ∷ es) h i zero d lt in' = absurd (omega arith)
  rises (e ∷ es) h zero (suc j) d lt in' = below_each e.0 es (front _ _ h) j d (omega arith)
  rises (e ∷ es) h (suc i) (suc j) d lt in' = rises es (back _ _ h) i j d (omega arith) (omega arith)

  -- what stands at a place is found by its key
  pub find_at : (es : List (K × X)) → T (is_sorted R es) → (i : ℕ) (d : K × X) → i < length es → find R (get_or es i d).0 es ≡ Some (get_or es i d).1
  find_at [] h i d in' = absurd (omega arith)
  find_at (e ∷ es) h zero d in' = ap (λ r. cond (is_eq r) (Some e.1) (find R e.0 es)) (tied_itself o e.0)
  find_at (e ∷ es) h (suc i) d in' =
      ap (λ r. cond (is_eq r) (Some e.1) (find R (get_or es i d).0 es)) (greater_from_less o _ _ (below_each e.0 es (front _ _ h) i d (omega arith)))
      ∙ find_at es (back _ _ h) i d (omega arith)

  -- a key that ties with none isn't found
  pub find_none : (q : K) (es : List (K × X)) → ((k : ℕ) (d : K × X) → k < length es → is_eq (R q (get_or es k d).0) ≡ false) → find R q es ≡ None
  find_none q [] h = refl
  find_none q (e ∷ es) h =
      ap (λ b. cond b (Some e.1) (find R q es)) (h zero e (omega arith))
      ∙ find_none q es (λ k d lt. h (suc k) d (omega arith))

  -- one more entry, in the gap for its key
  pub put_insert : (q : K) (v : X) (es : List (K × X)) (at : ℕ) → at ≤ length es
      → ((k : ℕ) (d : K × X) → k < at → R q (get_or es k d).0 ≡ Greater)
      → ((k : ℕ) (d : K × X) → at ≤ k → k < length es → R q (get_or es k d).0 ≡ Less)
      → put R q v es ≡ insert es at (q, v)
  put_insert q v [] zero le before after = refl
  put_insert q v [] (suc at) le before after = absurd (omega arith)
  put_insert q v (e ∷ es) zero le before after =
      ap (λ r. by_order r ((q, v) ∷ e ∷ es) ((e.0, v) ∷ es) (e ∷ put R q v es)) (after zero e (omega arith) (omega arith))
  put_insert q v (e ∷ es) (suc at) le before after =
      ap (λ r. by_order r ((q, v) ∷ e ∷ es) ((e.0, v) ∷ es) (e ∷ put R q v es)) (before zero e (omega arith))
      ∙ ap (λ xs. e ∷ xs) (put_insert q v es at (omega arith) (λ k d lt. before (suc k) d (omega arith)) (λ k d ge lt. after (suc k) d (omega arith) (omega arith)))

  -- a new value where the key stands
  pub put_set : (v : X) (es : List (K × X)) → T (is_sorted R es) → (at : ℕ) (d : K × X) → at < length es
      → put R (get_or es at d).0 v es ≡ set es at ((get_or es at d).0, v)
  put_set v [] h at d in' = absurd (omega arith)
  put_set v (e ∷ es) h zero d in' =
      ap (λ r. by_order r ((e.0, v) ∷ e ∷ es) ((e.0, v) ∷ es) (e ∷ put R e.0 v es)) (tied_itself o e.0)
  put_set v (e ∷ es) h (suc at) d in' =
      let q = (get_or es at d).0 in
      ap (λ r. by_order r ((q, v) ∷ e ∷ es) ((e.0, v) ∷ es) (e ∷ put R q v es)) (greater_from_less o _ _ (below_each e.0 es (front _ _ h) at d (omega arith)))
      ∙ ap (λ xs. e ∷ xs) (put_set v es (back _ _ h) at d (omega arith))

  -- where all keys differ from it, none is taken away
  where_none : (q : K) (es : List (K × X)) → T (below_all R q es) → where_key R (λ x. not (eq_by_cmp R q x)) es ≡ es
  where_none q [] h = refl
  where_none q (e ∷ es) h =
      ap (λ r. cond (not (is_eq r)) (e ∷ where_key R (λ x. not (eq_by_cmp R q x)) es) (where_key R (λ x. not (eq_by_cmp R q x)) es)) (less _ (front _ _ h))
      ∙ ap (λ xs. e ∷ xs) (where_none q es (back _ _ h))

  -- one entry less
  pub where_remove : (es : List (K × X)) → T (is_sorted R es) → (at : ℕ) (d : K × X) → at < length es
      → where_key R (λ x. not (eq_by_cmp R (get_or es at d).0 x)) es ≡ remove es at
  where_remove [] h at d in' = absurd (omega arith)
  where_remove (e ∷ es) h zero d in' =
      ap (λ r. cond (not (is_eq r)) (e ∷ where_key R (λ x. not (eq_by_cmp R e.0 x)) es) (where_key R (λ x. not (eq_by_cmp R e.0 x)) es)) (tied_itself o e.0)
      ∙ where_none e.0 es (front _ _ h)
  where_remove (e ∷ es) h (suc at) d in' =
      let q = (get_or es at d).0 in
      ap (λ r. cond (not (is_eq r)) (e ∷ where_key R (λ x. not (eq_by_cmp R q x)) es) (where_key R (λ x. not (eq_by_cmp R q x)) es)) (greater_from_less o _ _ (below_each e.0 es (front _ _ h) at d (omega arith)))
      ∙ ap (λ xs. e ∷ xs) (where_remove es (back _ _ h) at d (omega arith))
