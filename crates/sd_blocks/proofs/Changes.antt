-- What a split, an insertion and a removal do to the blocks.
use Rattle.sd_blocks.proofs.Cited.{AreHalves, Err, IsBlockOf, List, Ok, OnErr, OnOk, Result, StartFrom, [], add-one, ap, append_assoc, arith, down, drop, drop-set-lt, flat_map-append, get_or, get_or-drop, insert, insert-append_left, insert-append_right, joined, length, length-append, length-drop, length-flat_map-take, length-insert, length-remove, map, nil_from_length, refl, remove, remove-append_left, remove-append_right, set, suc, sym, take, take-append-drop, up, zero, ℕ, ◌++◌, ◌+◌, ◌-◌, ◌<◌, ◌∙◌, ◌∷◌, ◌≡◌, ◌≤◌}
use Rattle.sd_blocks.proofs.Written.{joined_round, joined_set, starts_set}
use Rattle.sd_blocks.proofs.Starts.{start_at}

module _ {T : Type 0} where
  -- a block's end lies within the list
  pub end_within : (bs : List (ℕ × List T)) (k : ℕ) (d : ℕ × List T) → StartFrom 0 bs → k < length bs → (get_or bs k d).0 + length (get_or bs k d).1 ≤ length (joined bs)
  end_within bs k d s h = omega (arith, start_at 0 bs k d s h, length-flat_map-take (λ (b : ℕ × List T). b.1) bs k d h)

  -- two blocks in place of one
  pub halved_joined : (bs : List (ℕ × List T)) (k : ℕ) (d low high : ℕ × List T) → k < length bs → AreHalves (get_or bs k d) low high → joined (set (insert bs (suc k) high) k low) ≡ joined bs
  halved_joined [] k d low high h p = absurd (omega arith)
  halved_joined (b ∷ bs) zero d low high h p = sym (append_assoc low.1 high.1 (joined bs)) ∙ ap (λ l. l ++ joined bs) p.joins
  halved_joined (b ∷ bs) (suc k) d low high h p = ap (λ l. b.1 ++ l) (halved_joined bs k d low high (omega arith) p)

  pub halved_starts : (n : ℕ) (bs : List (ℕ × List T)) (k : ℕ) (d low high : ℕ × List T) → StartFrom n bs → k < length bs → AreHalves (get_or bs k d) low high → StartFrom n (set (insert bs (suc k) high) k low)
  halved_starts n [] k d low high s h p = absurd (omega arith)
  halved_starts n (b ∷ bs) zero d low high s h p =
      let size : (n + length low.1) + length high.1 ≡ n + length b.1 = omega (arith, sym (length-append low.1 high.1) ∙ ap length p.joins) in
      (p.low_start ∙ s.0, p.low_some, (omega (arith, p.high_start, s.0), p.high_some, rw size s.2))
  halved_starts n (b ∷ bs) (suc k) d low high s h p = (s.0, s.1, halved_starts (n + length b.1) bs k d low high s.2 (omega arith) p)

  -- the blocks behind one that is written start below the end of the list
  pub rest_below : (bs : List (ℕ × List T)) (k m : ℕ) (b' : ℕ × List T) → StartFrom 0 bs → length (joined bs) < m → (i : ℕ) (d : ℕ × List T) → i < length (drop (k + 1) (set bs k b')) → (get_or (drop (k + 1) (set bs k b')) i d).0 < m
  rest_below bs k m b' s fits i d h =
      let same = drop-set-lt (k + 1) bs k b' (omega arith) in
      let inside : i < length (drop (k + 1) bs) = rw same at h in
      let place = get_or-drop (k + 1) bs i d in
      let within : (k + 1) + i < length bs = omega (arith, inside, length-drop (k + 1) bs) in
      rw same (rw place (omega (arith, end_within bs ((k + 1) + i) d s within)))

  joined_up : (bs : List (ℕ × List T)) → joined (map up bs) ≡ joined bs
  joined_up [] = refl
  joined_up (b ∷ bs) = ap (λ l. b.1 ++ l) (joined_up bs)

  starts_up : (n : ℕ) (bs : List (ℕ × List T)) → StartFrom n bs → StartFrom (n + 1) (map up bs)
  starts_up n [] s = tt
  starts_up n (b ∷ bs) s =
      let next : (n + 1) + length b.1 ≡ (n + length b.1) + 1 = omega arith in
      (ap (λ x. x + 1) s.0, s.1, rw next (starts_up (n + length b.1) bs s.2))

  -- an insertion in the middle of three parts
  insert_middle : (xs ys zs : List T) (j : ℕ) (x : T) → j ≤ length ys → insert (xs ++ (ys ++ zs)) (length xs + j) x ≡ xs ++ (insert ys j x ++ zs)
  insert_middle xs ys zs j x h =
      let right = insert-append_right xs (ys ++ zs) (length xs) (length xs + j) x refl (omega arith) in
      let left = insert-append_left ys zs j x h in
      let same : (length xs + j) - length xs ≡ j = omega arith in
      right ∙ ap (λ i. xs ++ insert (ys ++ zs) i x) same ∙ ap (λ l. xs ++ l) left

  -- the list once a block has one element more
  pub put_joined : (bs : List (ℕ × List T)) (at k : ℕ) (b b' : ℕ × List T) (start : ℕ) (x : T) → IsBlockOf bs at k → b ≡ get_or bs k b → start ≡ b.0 → b'.1 ≡ insert b.1 (at - start) x → joined (take (k + 1) (set bs k b') ++ map up (drop (k + 1) (set bs k b'))) ≡ insert (joined bs) at x
  put_joined bs at k b b' start x found is starts wrote =
      let e0 : b.0 ≡ (get_or bs k b).0 = ap (λ (y : ℕ × List T). y.0) is in
      let e1 : b.1 ≡ (get_or bs k b).1 = ap (λ (y : ℕ × List T). y.1) is in
      let within : at - start ≤ length (get_or bs k b).1 = omega (arith, found.from b, found.to b) in
      let place : length (joined (take k bs)) + (at - start) ≡ at = omega (arith, found.first b, found.from b) in
      let all = set bs k b' in
      flat_map-append (λ (y : ℕ × List T). y.1) (take (k + 1) all) (map up (drop (k + 1) all))
      ∙ ap (λ l. joined (take (k + 1) all) ++ l) (joined_up (drop (k + 1) all))
      ∙ sym (flat_map-append (λ (y : ℕ × List T). y.1) (take (k + 1) all) (drop (k + 1) all))
      ∙ ap joined (take-append-drop (k + 1) all)
      ∙ joined_set bs k b' found.inside
      ∙ ap (λ ys. joined (take k bs) ++ (ys ++ joined (drop (suc k) bs))) (wrote ∙ ap (λ ys. insert ys (at - start) x) e1)
      ∙ sym (insert_middle (joined (take k bs)) (get_or bs k b).1 (joined (drop (suc k) bs)) (at - start) x within)
      ∙ ap (λ l. insert l (length (joined (take k bs)) + (at - start)) x) (sym (joined_round bs k b found.inside))
      ∙ ap (λ i. insert (joined bs) i x) place

  put_starts_suc : (n : ℕ) (bs : List (ℕ × List T)) (k : ℕ) (d b' : ℕ × List T) → StartFrom n bs → k < length bs → b'.0 ≡ (get_or bs k d).0 → length b'.1 ≡ length (get_or bs k d).1 + 1 → StartFrom n (take (suc k) (set bs k b') ++ map up (drop (suc k) (set bs k b')))
  put_starts_suc n [] k d b' s h start len = absurd (omega arith)
  put_starts_suc n (b ∷ bs) zero d b' s h start len =
      let next : n + length b'.1 ≡ (n + length b.1) + 1 = omega (arith, len) in
      (start ∙ s.0, omega (arith, len), rw next (starts_up (n + length b.1) bs s.2))
  put_starts_suc n (b ∷ bs) (suc k) d b' s h start len = (s.0, s.1, put_starts_suc (n + length b.1) bs k d b' s.2 (omega arith) start len)

  pub put_starts : (bs : List (ℕ × List T)) (at k : ℕ) (b b' : ℕ × List T) (start : ℕ) (x : T) → StartFrom 0 bs → IsBlockOf bs at k → b ≡ get_or bs k b → start ≡ b.0 → b'.0 ≡ b.0 → b'.1 ≡ insert b.1 (at - start) x → StartFrom 0 (take (k + 1) (set bs k b') ++ map up (drop (k + 1) (set bs k b')))
  put_starts bs at k b b' start x s found is starts stays wrote =
      let e0 : b.0 ≡ (get_or bs k b).0 = ap (λ (y : ℕ × List T). y.0) is in
      let e1 : b.1 ≡ (get_or bs k b).1 = ap (λ (y : ℕ × List T). y.1) is in
      let within : at - start ≤ length (get_or bs k b).1 = omega (arith, found.from b, found.to b) in
      let longer = ap length (wrote ∙ ap (λ ys. insert ys (at - start) x) e1) ∙ length-insert (get_or bs k b).1 (at - start) x within in
      rw add-one (put_starts_suc 0 bs k b b' s found.inside (stays ∙ e0) longer)

  -- a block that was written as it was
  pub same_joined : (bs : List (ℕ × List T)) (k : ℕ) (b b' : ℕ × List T) → k < length bs → b ≡ get_or bs k b → b'.1 ≡ b.1 → joined (set bs k b') ≡ joined bs
  same_joined bs k b b' h is same =
      let e1 : b.1 ≡ (get_or bs k b).1 = ap (λ (y : ℕ × List T). y.1) is in
      joined_set bs k b' h ∙ ap (λ ys. joined (take k bs) ++ (ys ++ joined (drop (suc k) bs))) (same ∙ e1) ∙ sym (joined_round bs k b h)

  pub same_err : {E R : Type 0} (r : Result R E) (bs : List (ℕ × List T)) (k : ℕ) (b b' : ℕ × List T) → k < length bs → b ≡ get_or bs k b → OnErr r (b'.1 ≡ b.1) → OnErr r (joined (set bs k b') ≡ joined bs)
  same_err (Ok _) bs k b b' h is same = tt
  same_err (Err _) bs k b b' h is same = same_joined bs k b b' h is same

  pub same_starts : (bs : List (ℕ × List T)) (k : ℕ) (b b' : ℕ × List T) → StartFrom 0 bs → k < length bs → b ≡ get_or bs k b → b'.0 ≡ b.0 → b'.1 ≡ b.1 → StartFrom 0 (set bs k b')
  same_starts bs k b b' s h is start same =
      let e0 : b.0 ≡ (get_or bs k b).0 = ap (λ (y : ℕ × List T). y.0) is in
      let e1 : b.1 ≡ (get_or bs k b).1 = ap (λ (y : ℕ × List T). y.1) is in
      starts_set 0 bs k b b' s h (start ∙ e0) (ap length same ∙ ap length e1)

  -- the blocks behind the first one do not start at 0
  start_positive : (n : ℕ) (bs : List (ℕ × List T)) (j : ℕ) (d : ℕ × List T) → StartFrom n bs → 0 < j → j < length bs → 0 < (get_or bs j d).0
  start_positive n [] j d s p h = absurd (omega arith)
  start_positive n (b ∷ bs) zero d s p h = absurd (omega arith)
  start_positive n (b ∷ bs) (suc j) d s p h = omega (arith, s.1, start_at (n + length b.1) bs j d s.2 (omega arith))

  pub rest_above : (bs : List (ℕ × List T)) (k : ℕ) (b' : ℕ × List T) → StartFrom 0 bs → (i : ℕ) (d : ℕ × List T) → i < length (drop (k + 1) (set bs k b')) → 0 < (get_or (drop (k + 1) (set bs k b')) i d).0
  rest_above bs k b' s i d h =
      let same = drop-set-lt (k + 1) bs k b' (omega arith) in
      let inside : i < length (drop (k + 1) bs) = rw same at h in
      let place = get_or-drop (k + 1) bs i d in
      let within : (k + 1) + i < length bs = omega (arith, inside, length-drop (k + 1) bs) in
      rw same (rw place (start_positive 0 bs ((k + 1) + i) d s (omega arith) within))

  joined_down : (bs : List (ℕ × List T)) → joined (map down bs) ≡ joined bs
  joined_down [] = refl
  joined_down (b ∷ bs) = ap (λ l. b.1 ++ l) (joined_down bs)

  starts_down : (n : ℕ) (bs : List (ℕ × List T)) → StartFrom (n + 1) bs → StartFrom n (map down bs)
  starts_down n [] s = tt
  starts_down n (b ∷ bs) s =
      let next : (n + 1) + length b.1 ≡ (n + length b.1) + 1 = omega arith in
      let rest = rw next at s.2 in
      (omega (arith, s.0), s.1, starts_down (n + length b.1) bs rest)

  -- a removal in the middle of three parts
  remove_middle : (xs ys zs : List T) (j : ℕ) → j < length ys → remove (xs ++ (ys ++ zs)) (length xs + j) ≡ xs ++ (remove ys j ++ zs)
  remove_middle xs ys zs j h =
      let right = remove-append_right xs (ys ++ zs) (length xs) (length xs + j) refl (omega arith) in
      let left = remove-append_left ys zs j h in
      let same : (length xs + j) - length xs ≡ j = omega arith in
      right ∙ ap (λ i. xs ++ remove (ys ++ zs) i) same ∙ ap (λ l. xs ++ l) left

  -- the list once a block has one element less
  pub taken_joined : (bs : List (ℕ × List T)) (at k : ℕ) (b b' : ℕ × List T) (start : ℕ) → IsBlockOf bs at k → at < length (joined bs) → b ≡ get_or bs k b → start ≡ b.0 → b'.1 ≡ remove b.1 (at - start) → joined (take (k + 1) (set bs k b') ++ map down (drop (k + 1) (set bs k b'))) ≡ remove (joined bs) at
  taken_joined bs at k b b' start found in_list is starts wrote =
      let e0 : b.0 ≡ (get_or bs k b).0 = ap (λ (y : ℕ × List T). y.0) is in
      let e1 : b.1 ≡ (get_or bs k b).1 = ap (λ (y : ℕ × List T). y.1) is in
      let within : at - start < length (get_or bs k b).1 = omega (arith, found.from b, found.before_end b in_list) in
      let place : length (joined (take k bs)) + (at - start) ≡ at = omega (arith, found.first b, found.from b) in
      let all = set bs k b' in
      flat_map-append (λ (y : ℕ × List T). y.1) (take (k + 1) all) (map down (drop (k + 1) all))
      ∙ ap (λ l. joined (take (k + 1) all) ++ l) (joined_down (drop (k + 1) all))
      ∙ sym (flat_map-append (λ (y : ℕ × List T). y.1) (take (k + 1) all) (drop (k + 1) all))
      ∙ ap joined (take-append-drop (k + 1) all)
      ∙ joined_set bs k b' found.inside
      ∙ ap (λ ys. joined (take k bs) ++ (ys ++ joined (drop (suc k) bs))) (wrote ∙ ap (λ ys. remove ys (at - start)) e1)
      ∙ sym (remove_middle (joined (take k bs)) (get_or bs k b).1 (joined (drop (suc k) bs)) (at - start) within)
      ∙ ap (λ l. remove l (length (joined (take k bs)) + (at - start))) (sym (joined_round bs k b found.inside))
      ∙ ap (λ i. remove (joined bs) i) place

  taken_starts_suc : (n : ℕ) (bs : List (ℕ × List T)) (k : ℕ) (d b' : ℕ × List T) → StartFrom n bs → k < length bs → b'.0 ≡ (get_or bs k d).0 → length b'.1 + 1 ≡ length (get_or bs k d).1 → 0 < length b'.1 → StartFrom n (take (suc k) (set bs k b') ++ map down (drop (suc k) (set bs k b')))
  taken_starts_suc n [] k d b' s h start len some = absurd (omega arith)
  taken_starts_suc n (b ∷ bs) zero d b' s h start len some =
      let next : n + length b.1 ≡ (n + length b'.1) + 1 = omega (arith, len) in
      let rest = rw next at s.2 in
      (start ∙ s.0, some, starts_down (n + length b'.1) bs rest)
  taken_starts_suc n (b ∷ bs) (suc k) d b' s h start len some = (s.0, s.1, taken_starts_suc (n + length b.1) bs k d b' s.2 (omega arith) start len some)

  emptied_starts_suc : (n : ℕ) (bs : List (ℕ × List T)) (k : ℕ) (d b' : ℕ × List T) → StartFrom n bs → k < length bs → length b'.1 + 1 ≡ length (get_or bs k d).1 → length b'.1 ≡ 0 → StartFrom n (remove (take (suc k) (set bs k b') ++ map down (drop (suc k) (set bs k b'))) k)
  emptied_starts_suc n [] k d b' s h len none = absurd (omega arith)
  emptied_starts_suc n (b ∷ bs) zero d b' s h len none =
      let next : n + length b.1 ≡ n + 1 = omega (arith, len) in
      let rest = rw next at s.2 in
      starts_down n bs rest
  emptied_starts_suc n (b ∷ bs) (suc k) d b' s h len none = (s.0, s.1, emptied_starts_suc (n + length b.1) bs k d b' s.2 (omega arith) len none)

  emptied_joined_suc : (bs : List (ℕ × List T)) (k : ℕ) (b' : ℕ × List T) → k < length bs → length b'.1 ≡ 0 → joined (remove (take (suc k) (set bs k b') ++ map down (drop (suc k) (set bs k b'))) k) ≡ joined (take (suc k) (set bs k b') ++ map down (drop (suc k) (set bs k b')))
  emptied_joined_suc [] k b' h none = absurd (omega arith)
  emptied_joined_suc (b ∷ bs) zero b' h none = ap (λ l. l ++ joined (map down bs)) (sym (nil_from_length b'.1 none))
  emptied_joined_suc (b ∷ bs) (suc k) b' h none = ap (λ l. b.1 ++ l) (emptied_joined_suc bs k b' (omega arith) none)

  shorter : (bs : List (ℕ × List T)) (at k : ℕ) (b b' : ℕ × List T) (start : ℕ) → IsBlockOf bs at k → at < length (joined bs) → b ≡ get_or bs k b → start ≡ b.0 → b'.1 ≡ remove b.1 (at - start) → length b'.1 + 1 ≡ length (get_or bs k b).1
  shorter bs at k b b' start found in_list is starts wrote =
      let e0 : b.0 ≡ (get_or bs k b).0 = ap (λ (y : ℕ × List T). y.0) is in
      let e1 : b.1 ≡ (get_or bs k b).1 = ap (λ (y : ℕ × List T). y.1) is in
      let within : at - start < length (get_or bs k b).1 = omega (arith, found.from b, found.before_end b in_list) in
      omega (arith, ap length (wrote ∙ ap (λ ys. remove ys (at - start)) e1), length-remove (get_or bs k b).1 (at - start) within)

  pub taken_starts : (bs : List (ℕ × List T)) (at k : ℕ) (b b' : ℕ × List T) (start : ℕ) → StartFrom 0 bs → IsBlockOf bs at k → at < length (joined bs) → b ≡ get_or bs k b → start ≡ b.0 → b'.0 ≡ b.0 → b'.1 ≡ remove b.1 (at - start) → 0 < length b'.1 → StartFrom 0 (take (k + 1) (set bs k b') ++ map down (drop (k + 1) (set bs k b')))
  taken_starts bs at k b b' start s found in_list is starts stays wrote some =
      let e0 : b.0 ≡ (get_or bs k b).0 = ap (λ (y : ℕ × List T). y.0) is in
      rw add-one (taken_starts_suc 0 bs k b b' s found.inside (stays ∙ e0) (shorter bs at k b b' start found in_list is starts wrote) some)

  pub emptied_starts : (bs : List (ℕ × List T)) (at k : ℕ) (b b' : ℕ × List T) (start : ℕ) → StartFrom 0 bs → IsBlockOf bs at k → at < length (joined bs) → b ≡ get_or bs k b → start ≡ b.0 → b'.1 ≡ remove b.1 (at - start) → length b'.1 ≡ 0 → StartFrom 0 (remove (take (k + 1) (set bs k b') ++ map down (drop (k + 1) (set bs k b'))) k)
  emptied_starts bs at k b b' start s found in_list is starts wrote none =
      rw add-one (emptied_starts_suc 0 bs k b b' s found.inside (shorter bs at k b b' start found in_list is starts wrote) none)

  pub emptied_joined : (bs : List (ℕ × List T)) (k : ℕ) (b' : ℕ × List T) → k < length bs → length b'.1 ≡ 0 → joined (remove (take (k + 1) (set bs k b') ++ map down (drop (k + 1) (set bs k b'))) k) ≡ joined (take (k + 1) (set bs k b') ++ map down (drop (k + 1) (set bs k b')))
  emptied_joined bs k b' h none = rw add-one (emptied_joined_suc bs k b' h none)

  -- an element that gives way to another, which comes in first
  later_suc : (xs : List T) (from to : ℕ) (x : T) → from ≤ to → to < length xs → remove (insert xs (suc to) x) from ≡ insert (remove xs from) to x
  later_suc [] from to x order h = absurd (omega arith)
  later_suc (y ∷ ys) zero to x order h = refl
  later_suc (y ∷ ys) (suc from) zero x order h = absurd (omega arith)
  later_suc (y ∷ ys) (suc from) (suc to) x order h = ap (λ l. y ∷ l) (later_suc ys from to x (omega arith) (omega arith))

  earlier_suc : (xs : List T) (from to : ℕ) (x : T) → to ≤ from → from < length xs → remove (insert xs to x) (suc from) ≡ insert (remove xs from) to x
  earlier_suc [] from to x order h = absurd (omega arith)
  earlier_suc (y ∷ ys) from zero x order h = refl
  earlier_suc (y ∷ ys) zero (suc to) x order h = absurd (omega arith)
  earlier_suc (y ∷ ys) (suc from) (suc to) x order h = ap (λ l. y ∷ l) (earlier_suc ys from to x (omega arith) (omega arith))

  pub later : (xs : List T) (from to : ℕ) (x : T) → from < to → to < length xs → remove (insert xs (to + 1) x) from ≡ insert (remove xs from) to x
  later xs from to x order h = rw add-one (later_suc xs from to x (omega arith) h)

  pub earlier : (xs : List T) (from to : ℕ) (x : T) → to ≤ from → from < length xs → remove (insert xs to x) (from + 1) ≡ insert (remove xs from) to x
  earlier xs from to x order h = rw add-one (earlier_suc xs from to x order h)

  exchange_middle : (xs ys zs : List T) (i j : ℕ) (x : T) → i < length ys → j < length ys → insert (remove (xs ++ (ys ++ zs)) (length xs + i)) (length xs + j) x ≡ xs ++ (insert (remove ys i) j x ++ zs)
  exchange_middle xs ys zs i j x hi hj =
      ap (λ l. insert l (length xs + j) x) (remove_middle xs ys zs i hi)
      ∙ insert_middle xs (remove ys i) zs j x (omega (arith, length-remove ys i hi))

  -- the list once an element of a block gives way to another in the same block
  exchanged_joined : (bs : List (ℕ × List T)) (from to k : ℕ) (b b' : ℕ × List T) (start : ℕ) (x : T) → IsBlockOf bs from k → IsBlockOf bs to k → from < length (joined bs) → to < length (joined bs) → b ≡ get_or bs k b → start ≡ b.0 → b'.1 ≡ insert (remove b.1 (from - start)) (to - start) x → joined (set bs k b') ≡ insert (remove (joined bs) from) to x
  exchanged_joined bs from to k b b' start x source target from_in to_in is starts wrote =
      let e0 : b.0 ≡ (get_or bs k b).0 = ap (λ (y : ℕ × List T). y.0) is in
      let e1 : b.1 ≡ (get_or bs k b).1 = ap (λ (y : ℕ × List T). y.1) is in
      let before = joined (take k bs) in
      let one : from - start < length (get_or bs k b).1 = omega (arith, source.from b, source.before_end b from_in) in
      let other : to - start < length (get_or bs k b).1 = omega (arith, target.from b, target.before_end b to_in) in
      let one_place : length before + (from - start) ≡ from = omega (arith, source.first b, source.from b) in
      let other_place : length before + (to - start) ≡ to = omega (arith, target.first b, target.from b) in
      joined_set bs k b' source.inside
      ∙ ap (λ ys. before ++ (ys ++ joined (drop (suc k) bs))) (wrote ∙ ap (λ ys. insert (remove ys (from - start)) (to - start) x) e1)
      ∙ sym (exchange_middle before (get_or bs k b).1 (joined (drop (suc k) bs)) (from - start) (to - start) x one other)
      ∙ ap (λ l. insert (remove l (length before + (from - start))) (length before + (to - start)) x) (sym (joined_round bs k b source.inside))
      ∙ ap (λ i. insert (remove (joined bs) i) (length before + (to - start)) x) one_place
      ∙ ap (λ i. insert (remove (joined bs) from) i x) other_place

  pub exchanged_ok : {E R : Type 0} (r : Result R E) (bs : List (ℕ × List T)) (from to k : ℕ) (b b' : ℕ × List T) (start : ℕ) (x : T) → IsBlockOf bs from k → IsBlockOf bs to k → from < length (joined bs) → to < length (joined bs) → b ≡ get_or bs k b → start ≡ b.0 → OnOk r (b'.1 ≡ insert (remove b.1 (from - start)) (to - start) x) → OnOk r (joined (set bs k b') ≡ insert (remove (joined bs) from) to x)
  exchanged_ok (Ok _) bs from to k b b' start x source target from_in to_in is starts wrote = exchanged_joined bs from to k b b' start x source target from_in to_in is starts wrote
  exchanged_ok (Err _) bs from to k b b' start x source target from_in to_in is starts wrote = tt
