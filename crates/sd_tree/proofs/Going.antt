-- The entries of a tree after a move, in order: a run of them goes elsewhere.
use Rattle.sd_tree.proofs.Cited.{All, Bool, Equal, Greater, Less, List, Names, NodeRow, Ordering, Some, T, [], ap, arith, below_all, cases_Bool, cases_lt, cond, eq_by_cmp, false, false≢true, find, get_or, get_or-append_right, get_or_append_left, inl, inr, is_lt, is_sorted, is_within, length, length-append, less_from_greater, names_cmp, names_cmp_antisymmetric, names_cmp_total, other_path, refl, same_or_other, subst, suc, sym, true, within_before, within_between, zero, ℕ, ◌&&◌, ◌++◌, ◌-◌, ◌<◌, ◌∙◌, ◌∷◌, ◌≡◌}

abbrev pub Entry : Type 0
Entry = Names × NodeRow

-- ---- lists of entries whose keys rise

both : (a b : Bool) → T a → T b → T (a && b)
both true b h k = k
both false b h k = absurd h

is_less : (r : Ordering) → r ≡ Less → T (is_lt r)
is_less r e = subst (λ o. T (is_lt o)) (sym e) tt

below_from : (x : Names) (es : List Entry) → ((k : ℕ) (d : Entry) → k < length es → names_cmp x (get_or es k d).0 ≡ Less) → T (below_all names_cmp x es)
below_from x [] h = tt
below_from x (e ∷ es) h = both _ _ (is_less _ (h zero e (omega arith))) (below_from x es (λ k d lt. h (suc k) d (omega arith)))

pub sorted_from : (es : List Entry) → ((i j : ℕ) (d : Entry) → i < j → j < length es → names_cmp (get_or es i d).0 (get_or es j d).0 ≡ Less) → T (is_sorted names_cmp es)
sorted_from [] h = tt
sorted_from (e ∷ es) h =
    both _ _ (below_from e.0 es (λ k d lt. h zero (suc k) d (omega arith) (omega arith)))
    (sorted_from es (λ i j d lt in'. h (suc i) (suc j) d (omega arith) (omega arith)))

-- each of the ones is before each of the others
abbrev pub AreBefore : List Entry → List Entry → Type 0
AreBefore xs ys = (i j : ℕ) (d : Entry) → i < length xs → j < length ys → names_cmp (get_or xs i d).0 (get_or ys j d).0 ≡ Less

abbrev pub Rise : List Entry → Type 0
Rise es = (i j : ℕ) (d : Entry) → i < j → j < length es → names_cmp (get_or es i d).0 (get_or es j d).0 ≡ Less

pub rise_append : (xs ys : List Entry) → Rise xs → Rise ys → AreBefore xs ys → Rise (xs ++ ys)
rise_append xs ys hx hy h i j d lt in' = elim (cases_lt j (length xs)) [
  | inl low ↦ (λ t. names_cmp (get_or_append_left xs ys d i (omega arith) t).0 (get_or_append_left xs ys d j low t).0) ∙ hx i j d lt low
  | inr high ↦
      let right = get_or-append_right xs ys (length xs) j d refl high in
      let count = length-append xs ys in
      elim (cases_lt i (length xs)) [
        | inl low ↦ (λ t. names_cmp (get_or_append_left xs ys d i low t).0 (right t).0) ∙ h i (j - length xs) d low (omega (arith, count))
        | inr also ↦ (λ t. names_cmp (get_or-append_right xs ys (length xs) i d refl also t).0 (right t).0) ∙ hy (i - length xs) (j - length xs) d (omega arith) (omega (arith, count))
      ]
]

pub before_append : (xs ys zs : List Entry) → AreBefore xs ys → AreBefore xs zs → AreBefore xs (ys ++ zs)
before_append xs ys zs hy hz i j d in-i in-j = elim (cases_lt j (length ys)) [
  | inl low ↦ (λ t. names_cmp (get_or xs i d).0 (get_or_append_left ys zs d j low t).0) ∙ hy i j d in-i low
  | inr high ↦ (λ t. names_cmp (get_or xs i d).0 (get_or-append_right ys zs (length ys) j d refl high t).0) ∙ hz i (j - length ys) d in-i (omega (arith, length-append ys zs))
]

-- ---- a run at and below a path, among entries that aren't

module _ (top : Names) where
  abbrev pub Inside : Entry → Type 0
  Inside e = is_within top e.0 ≡ true

  abbrev pub Outside : Entry → Type 0
  Outside e = is_within top e.0 ≡ false

  abbrev pub Low : Entry → Type 0
  Low e = names_cmp e.0 top ≡ Less

  abbrev pub High : Entry → Type 0
  High e = names_cmp top e.0 ≡ Less

  low_before : (p m : Names) → names_cmp p top ≡ Less → is_within top m ≡ true → names_cmp p m ≡ Less
  low_before p m low inside = elim (same_or_other m top) [
    | inl same ↦ ap (names_cmp p) same ∙ low
    | inr other ↦ names_cmp_total.trans p top m low (within_before top m inside other)
  ]

  high_behind : (m q : Names) → is_within top m ≡ true → names_cmp top q ≡ Less → is_within top q ≡ false → names_cmp m q ≡ Less
  high_behind m q inside high out = by_order (names_cmp m q) refl
    where
      by_order : (o : Ordering) → names_cmp m q ≡ o → names_cmp m q ≡ Less
      by_order Less e = e
      by_order Equal e = absurd (false≢true (sym out ∙ ap (is_within top) (sym (names_cmp_antisymmetric m q e)) ∙ inside))
      by_order Greater e = absurd (false≢true (sym out ∙ within_between top q m high (less_from_greater names_cmp_total m q e) inside))

  -- the run goes into the gap where its top belongs
  pub rise_with_run : (before run behind : List Entry) → Rise before → Rise run → Rise behind → All Low before → All Inside run → All High behind → All Outside behind
      → Rise (before ++ (run ++ behind))
  rise_with_run before run behind hb hr hh low inside high out =
      rise_append before (run ++ behind) hb
      (rise_append run behind hr hh (λ i j d in-i in-j. high_behind (get_or run i d).0 (get_or behind j d).0 (inside i d in-i) (high j d in-j) (out j d in-j)))
      (before_append before run behind
      (λ i j d in-i in-j. low_before (get_or before i d).0 (get_or run j d).0 (low i d in-i) (inside j d in-j))
      (λ i j d in-i in-j. names_cmp_total.trans (get_or before i d).0 top (get_or behind j d).0 (low i d in-i) (high j d in-j)))

  -- ---- what is found doesn't tell where the run stands

  find_skip : (p : Names) (xs ys : List Entry) → ((k : ℕ) (d : Entry) → k < length xs → eq_by_cmp names_cmp p (get_or xs k d).0 ≡ false) → find names_cmp p (xs ++ ys) ≡ find names_cmp p ys
  find_skip p [] ys h = refl
  find_skip p (x ∷ xs) ys h =
      ap (λ b. cond b (Some x.1) (find names_cmp p (xs ++ ys))) (h zero x (omega arith))
      ∙ find_skip p xs ys (λ k d lt. h (suc k) d (omega arith))

  find_behind : (p : Names) (xs ys zs : List Entry) → find names_cmp p ys ≡ find names_cmp p zs → find names_cmp p (xs ++ ys) ≡ find names_cmp p (xs ++ zs)
  find_behind p [] ys zs e = e
  find_behind p (x ∷ xs) ys zs e = ap (cond (eq_by_cmp names_cmp p x.0) (Some x.1)) (find_behind p xs ys zs e)

  pub find_swap : (p : Names) (run ys zs : List Entry) → All Inside run → All Outside ys → find names_cmp p (run ++ (ys ++ zs)) ≡ find names_cmp p (ys ++ (run ++ zs))
  find_swap p run ys zs inside out = elim (cases_Bool (is_within top p)) [
    | inl in' ↦
        let skip = λ (rest : List Entry). find_skip p ys rest (λ k d lt. other_path p _ (λ same. false≢true (sym (out k d lt) ∙ ap (is_within top) (sym same) ∙ in'))) in
        find_behind p run (ys ++ zs) zs (skip zs) ∙ sym (skip (run ++ zs))
    | inr out' ↦
        let skip = λ (rest : List Entry). find_skip p run rest (λ k d lt. other_path p _ (λ same. false≢true (sym out' ∙ ap (is_within top) same ∙ inside k d lt))) in
        skip (ys ++ zs) ∙ sym (find_behind p ys (run ++ zs) zs (skip zs))
  ]
