-- Hexadecimal with signs between bytes, part by part.
use Rattle.sd_commands.proofs.Cited.{BytesRead, List, None, Ok, Some, [], after_first, ap, append-nil, arith, before_first, cond, drop, fails_before_first, is_between, joined, length, length-drop, length-take-le, ltb, nat_tests, part_read, position_or_len, slice_split, slice_split_first, slice_split_none, take, take_rest, unwrap_or, ℕ, ◌+◌, ◌-◌, ◌<◌, ◌∙◌, ◌∷◌, ◌≡◌, ◌≤◌}
use Rattle.hex.specs.Hex.{decode_pairs}
use Rattle.sd_commands.specs.Bytes.{parts_read}

-- the place that a search tells, or the end; the place that it finds, or that it finds none
pub place_or_end : (n m : ℕ) → n ≤ m → unwrap_or (cond (ltb n m) (Some n) None) m ≡ n
place_or_end n m within = grind (arith, nat_tests)

pub found : (n m i : ℕ) → Some i ≡ cond (ltb n m) (Some n) None → (i ≡ n) × (n < m)
found n m i is = grind (arith, nat_tests)

pub not_found : (n m : ℕ) → None ≡ cond (ltb n m) (Some n) None → m ≤ n
not_found n m is = grind (arith, nat_tests)

-- ---- the first part

pub parts_before : (xs : List ℕ) (end place : ℕ) → (end ≡ position_or_len is_between xs) × (position_or_len is_between xs < length xs)
    → parts_read place (slice_split is_between xs) ≡ joined (part_read place (take end xs))
    (parts_read ((place + length xs) - length (take (length xs - (end + 1)) (drop (end + 1) xs)))
    (slice_split is_between (take (length xs - (end + 1)) (drop (end + 1) xs))))
unfolding parts_read
parts_before xs end place (at, low) =
    let front = before_first is_between xs in
    let behind = after_first is_between xs in
    let number : place + length front + 1 ≡ (place + length xs) - length behind =
    omega (arith, length-take-le (position_or_len is_between xs) xs (omega arith), length-drop (position_or_len is_between xs + 1) xs) in
    rw (take_rest xs (end + 1), at)
    (ap (parts_read place) (slice_split_first is_between xs 0 low)
    ∙ ap (λ n. joined (part_read place front) (parts_read n (slice_split is_between behind))) number)

pub parts_last : (xs : List ℕ) (place : ℕ) → length xs ≤ position_or_len is_between xs
    → parts_read place (slice_split is_between xs) ≡ joined (part_read place xs) (parts_read ((place + length xs) - 0) (slice_split is_between []))
unfolding parts_read decode_pairs
parts_last xs place far =
    ap (parts_read place) (slice_split_none is_between xs (λ k d low. fails_before_first is_between xs k d (omega arith)))

-- nothing is left
pub all_joined : (total : BytesRead) (text rest bytes : List ℕ)
    → total ≡ joined (Ok bytes) (parts_read (length text - length rest) (slice_split is_between rest))
    → length rest ≡ 0 → total ≡ Ok bytes
unfolding parts_read decode_pairs
all_joined total text [] bytes so_far none = so_far ∙ ap Ok (append-nil bytes)
all_joined total text (x ∷ rest) bytes so_far none = absurd (omega (arith, none))
