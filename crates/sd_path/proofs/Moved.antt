-- The bytes of a path whose beginning is replaced.
use Rattle.sd_path.proofs.Cited.{IsPath, Keeps, List, Names, [], and_from, and_parts, ap, append_assoc, arith, drop, ended, is_name, is_within, length, length-append, list_all, list_all-append, moved_path, names_of, refl, subst, sym, true, ℕ, ◌&&◌, ◌++◌, ◌+◌, ◌-◌, ◌∙◌, ◌∷◌, ◌≡◌, ◌≤◌}
use Rattle.sd_path.proofs.PathBytes.{names_of-path, Keeps-ended}
use Rattle.sd_path.proofs.Paths.{within_rest, moved_path-append}

ended-append : (xs ys : Names) → ended (xs ++ ys) ≡ ended xs ++ ended ys
ended-append [] ys = refl
ended-append (x ∷ xs) ys = ap (λ bs. x ++ 0 ∷ bs) (ended-append xs ys) ∙ sym (append_assoc x (0 ∷ ended xs) (ended ys))

drop_front : (xs ys : List ℕ) → drop (length xs) (xs ++ ys) ≡ ys
drop_front [] ys = refl
drop_front (x ∷ xs) ys = drop_front xs ys

module _ (source target path : List ℕ) (s t p : ℕ) (ks : Keeps source s) (kt : Keeps target t) (kp : Keeps path p) (inside : is_within (names_of source) (names_of path) ≡ true) where
  abbrev pub rest : Names
  rest = (within_rest (names_of source) (names_of path) inside).0

  pub names_are : names_of path ≡ names_of source ++ rest
  names_are = (within_rest (names_of source) (names_of path) inside).1

  bytes_are : path ≡ source ++ ended rest
  bytes_are = sym kp.whole ∙ ap ended names_are ∙ ended-append (names_of source) rest ∙ ap (λ bs. bs ++ ended rest) ks.whole

  pub source_fits : length source ≤ length path
  source_fits = omega (arith, ap length bytes_are, length-append source (ended rest))

  counts_are : p ≡ s + length rest
  counts_are = omega (arith, kp.counted, ks.counted, ap length names_are, length-append (names_of source) rest)

  pub count_fits : s ≤ p
  count_fits = omega (arith, counts_are)

  pub moved_is : moved_path (names_of source) (names_of target) (names_of path) ≡ names_of target ++ rest
  moved_is = ap (moved_path (names_of source) (names_of target)) names_are ∙ moved_path-append (names_of source) (names_of target) rest

  module _ (kept : List ℕ) (fits : length (moved_path (names_of source) (names_of target) (names_of path)) ≤ 128) (is : kept ≡ target ++ drop (length source) path) where
    kept_is : kept ≡ ended (names_of target ++ rest)
    kept_is =
        is ∙ ap (λ bs. target ++ drop (length source) bs) bytes_are
        ∙ ap (λ bs. target ++ bs) (drop_front source (ended rest))
        ∙ ap (λ bs. bs ++ ended rest) (sym kt.whole)
        ∙ sym (ended-append (names_of target) rest)

    is_path : IsPath (names_of target ++ rest)
    is_path =
        let all : (list_all is_name (names_of source) && list_all is_name rest) ≡ true =
        sym (list_all-append is_name (names_of source) rest) ∙ ap (list_all is_name) (sym names_are) ∙ kp.path.named in
        record {
          at_most = rw moved_is at fits;
          named =
              list_all-append is_name (names_of target) rest
              ∙ and_from (list_all is_name (names_of target)) (list_all is_name rest) kt.path.named (and_parts (list_all is_name (names_of source)) (list_all is_name rest) all).1;
        }

    pub moved_keeps : Keeps kept (t + (p - s))
    moved_keeps =
        let P : List ℕ → Type 0 = λ bytes. Keeps bytes (t + (p - s)) in
        let Q : ℕ → Type 0 = λ count. Keeps (ended (names_of target ++ rest)) count in
        let count : length (names_of target ++ rest) ≡ t + (p - s) = omega (arith, length-append (names_of target) rest, kt.counted, counts_are) in
        subst P (sym kept_is) (subst Q count (Keeps-ended (names_of target ++ rest) is_path))

    pub moved_names : names_of kept ≡ moved_path (names_of source) (names_of target) (names_of path)
    moved_names = ap names_of kept_is ∙ names_of-path (names_of target ++ rest) is_path ∙ sym moved_is
