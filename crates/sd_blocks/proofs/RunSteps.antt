-- A run that is removed or inserted element by element.
use Rattle.sd_blocks.proofs.Cited.{List, [], ap, append_assoc, arith, drop, drop-drop, drop_at, insert, length, length-append, length-drop, length-take, remove, remove-append_right, sym, take, take-append-drop, take_at, with_run, without_run, ℕ, ◌++◌, ◌+◌, ◌-◌, ◌<◌, ◌∙◌, ◌∷◌, ◌≡◌, ◌≤◌}

module _ {T : Type 0} where
  front_length : (n : ℕ) (xs : List T) → n ≤ length xs → length (take n xs) ≡ n
  front_length n xs h = omega (arith, length-take n xs)

  -- one element more is removed
  removed_more : (from i : ℕ) (xs : List T) → from + i < length xs → remove (without_run from i xs) from ≡ without_run from (i + 1) xs
  removed_more from i xs h =
      let at : from - from ≡ 0 = omega arith in
      let on : (from + i) + 1 ≡ from + (i + 1) = omega arith in
      remove-append_right (take from xs) (drop (from + i) xs) from from (front_length from xs (omega arith)) (omega arith)
      ∙ ap (λ n. take from xs ++ remove (drop (from + i) xs) n) at
      ∙ ap (λ ys. take from xs ++ ys) (drop-drop 1 (from + i) xs ∙ ap (λ n. drop n xs) on)

  pub removed_step : (from i n : ℕ) (xs ys zs : List T) → from + i < length xs → n ≡ i + 1 → ys ≡ without_run from i xs → zs ≡ remove ys from → zs ≡ without_run from n xs
  removed_step from i n xs ys zs h next is removed =
      removed ∙ ap (λ l. remove l from) is ∙ removed_more from i xs h ∙ ap (λ m. without_run from m xs) (sym next)

  pub without_none : (from : ℕ) (xs : List T) → without_run from 0 xs ≡ xs
  without_none from xs =
      let none : from + 0 ≡ from = omega arith in
      ap (λ n. take from xs ++ drop n xs) none ∙ take-append-drop from xs

  pub length_without : (from count : ℕ) (xs : List T) → from + count ≤ length xs → length (without_run from count xs) + count ≡ length xs
  length_without from count xs h =
      omega (arith, length-append (take from xs) (drop (from + count) xs), length-take from xs, length-drop (from + count) xs)

  -- the last element of a run is inserted before the others
  put_more : (at : ℕ) (run left xs : List T) (item : T) → at ≤ length xs → run ≡ left ++ item ∷ [] → with_run at run xs ≡ with_run at left (insert xs at item)
  put_more at run left xs item h is =
      let front = front_length at xs h in
      ap (λ ys. take at xs ++ (ys ++ drop at xs)) is
      ∙ ap (λ ys. take at xs ++ ys) (append_assoc left (item ∷ []) (drop at xs))
      ∙ ap (λ ys. ys ++ (left ++ item ∷ drop at xs)) (sym (take_at (take at xs) (item ∷ drop at xs) at front))
      ∙ ap (λ ys. take at (insert xs at item) ++ (left ++ ys)) (sym (drop_at (take at xs) (item ∷ drop at xs) at front))

  pub put_step : (at : ℕ) (run left xs xs' all : List T) (item : T) → at ≤ length xs → run ≡ left ++ item ∷ [] → xs' ≡ insert xs at item → with_run at run xs ≡ all → with_run at left xs' ≡ all
  put_step at run left xs xs' all item h is put whole = ap (λ l. with_run at left l) put ∙ sym (put_more at run left xs item h is) ∙ whole
