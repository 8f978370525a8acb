-- Entries in order, of which a front is taken: what it finds is what the whole finds, up to the first that is left.
use Rattle.sd_tree_laws.proofs.Cited.{Bool, Equal, Greater, Less, List, Names, NodeRow, None, Option, Ordering, Some, T, [], ap, arith, below_all, cond, eq_by_cmp, false, false≢true, find, is_eq, is_lt, is_sorted, len-empty, len-insert, length, names_cmp, names_cmp_total, one_path, path_itself, refl, subst, sym, true, ℕ, ◌&&◌, ◌++◌, ◌+◌, ◌∙◌, ◌∷◌, ◌≡◌, ◌≤◌}
use Rattle.std.specs.FinMap as finite

abbrev pub Entry : Type 0
Entry = Names × NodeRow

both : (a b : Bool) → T a → T b → T (a && b)
both true b p q = q
both false b p q = p

first : (a b : Bool) → T (a && b) → T a
first true b h = tt
first false b h = h

second : (a b : Bool) → T (a && b) → T b
second true b h = h
second false b h = absurd h

less : (r : Ordering) → T (is_lt r) → r ≡ Less
less Less h = refl
less Equal h = absurd h
less Greater h = absurd h

-- a path below one that is below them all is below them all
pub below_trans : (p q : Names) (es : List Entry) → names_cmp p q ≡ Less → T (below_all names_cmp q es) → T (below_all names_cmp p es)
below_trans p q [] lt h = tt
below_trans p q (e ∷ es) lt h =
    both _ _ (subst (λ r. T (is_lt r)) (sym (names_cmp_total.trans p q e.0 lt (less _ (first _ _ h)))) tt) (below_trans p q es lt (second _ _ h))

pub find_below : (q : Names) (es : List Entry) → T (below_all names_cmp q es) → find names_cmp q es ≡ None
find_below q [] h = refl
find_below q (e ∷ es) h = ap (λ r. cond (is_eq r) (Some e.1) (find names_cmp q es)) (less _ (first _ _ h)) ∙ find_below q es (second _ _ h)

-- what the rest doesn't have, the front finds as the whole does
pub find_front : (q : Names) (xs ys : List Entry) → find names_cmp q ys ≡ None → find names_cmp q (xs ++ ys) ≡ find names_cmp q xs
find_front q [] ys none = none
find_front q (x ∷ xs) ys none = ap (cond (eq_by_cmp names_cmp q x.0) (Some x.1)) (find_front q xs ys none)

below_rest : (q : Names) (xs ys : List Entry) → T (below_all names_cmp q (xs ++ ys)) → T (below_all names_cmp q ys)
below_rest q [] ys h = h
below_rest q (x ∷ xs) ys h = below_rest q xs ys (second _ _ h)

sorted_rest : (xs ys : List Entry) → T (is_sorted names_cmp (xs ++ ys)) → T (is_sorted names_cmp ys)
sorted_rest [] ys h = h
sorted_rest (x ∷ xs) ys h = sorted_rest xs ys (second _ _ h)

pub below_next : (e : Entry) (es : List Entry) → T (is_sorted names_cmp (e ∷ es)) → T (below_all names_cmp e.0 es)
below_next e es h = first _ _ h

-- a path that is found in the front is below all that is left
pub found_below : (q : Names) (r : NodeRow) (xs ys : List Entry) → T (is_sorted names_cmp (xs ++ ys)) → find names_cmp q xs ≡ Some r → T (below_all names_cmp q ys)
found_below q r [] ys h e = absurd cc
found_below q r (x ∷ xs) ys h e = by_key (eq_by_cmp names_cmp q x.0) refl e (found_below q r xs ys (second _ _ h))
  where
    by_key : (b : Bool) → eq_by_cmp names_cmp q x.0 ≡ b → cond b (Some x.1) (find names_cmp q xs) ≡ Some r
        → (find names_cmp q xs ≡ Some r → T (below_all names_cmp q ys)) → T (below_all names_cmp q ys)
    by_key true is found later =
        let P : Names → Type 0 = λ p. T (below_all names_cmp p ys) in
        subst P (sym (one_path q x.0 is)) (below_rest x.0 xs ys (first _ _ h))
    by_key false is found later = later found

-- no path is below itself
itself : (q : Names) (e : Entry) (es : List Entry) → q ≡ e.0 → T (below_all names_cmp q (e ∷ es)) → ⊥
itself q e es same h =
    let lt : names_cmp e.0 e.0 ≡ Less = ap (λ p. names_cmp p e.0) (sym same) ∙ less _ (first _ _ h) in
    false≢true (sym (ap is_eq lt) ∙ path_itself e.0)

not_found : (o : Option NodeRow) → ((r : NodeRow) → o ≡ Some r → ⊥) → o ≡ None
not_found None h = refl
not_found (Some r) h = absurd (h r refl)

-- the next path isn't in the front
pub next_free : (xs : List Entry) (e : Entry) (ys : List Entry) → T (is_sorted names_cmp (xs ++ e ∷ ys)) → find names_cmp e.0 xs ≡ None
next_free xs e ys h = not_found _ (λ r found. itself e.0 e ys refl (found_below e.0 r xs (e ∷ ys) h found))

-- a path before the next one isn't in the rest
pub before_next : (q : Names) (xs : List Entry) (e : Entry) (ys : List Entry) → T (is_sorted names_cmp (xs ++ e ∷ ys)) → names_cmp q e.0 ≡ Less → find names_cmp q (e ∷ ys) ≡ None
before_next q xs e ys h lt =
    find_below q (e ∷ ys) (both _ _ (subst (λ r. T (is_lt r)) (sym lt) tt) (below_trans q e.0 ys lt (below_next e ys (sorted_rest xs (e ∷ ys) h))))

-- the tree of a list has no more nodes than the list has entries
at_most : (b : Bool) (m n : ℕ) → m ≤ n → cond b m (m + 1) ≤ n + 1
at_most true m n h = omega (arith, h)
at_most false m n h = omega (arith, h)

pub few_entries : (es : List Entry) → finite.len (finite.from_entries {R = names_cmp} es) ≤ length es
few_entries [] = let none = len-empty names_cmp NodeRow in omega (arith, none)
few_entries (e ∷ es) =
    let before = finite.from_entries {R = names_cmp} es in
    let more = len-insert names_cmp_total before e.0 e.1 in
    let most = at_most (finite.contains_key before e.0) (finite.len before) (length es) (few_entries es) in
    omega (arith, more, most)
