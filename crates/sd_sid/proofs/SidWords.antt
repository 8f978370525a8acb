-- Numbers in bytes: what is written at a place is read there, and what is read there stands there.
use Rattle.sd_sid.proofs.Cited.{All, All-get_or, List, [], add-zero, add_assoc, ap, arith, cases_lt, drop, drop-drop, fill_by_all, flat_map, from_le_bytes, from_le_bytes-to_le_bytes_4, get_or, get_or-append-add, get_or-drop, get_or-flat_map, get_or-take, get_or_append_left, get_or_past, inl, inr, le_bytes_4, length, length-drop, length-take, length-take-le, map, range_with_len, refl, suc, sym, take, take-add, to_le_bytes, u32_at, u32s_at, w32, zero, ℕ, ◌*◌, ◌++◌, ◌+◌, ◌<◌, ◌^◌, ◌∙◌, ◌∷◌, ◌≡◌, ◌≤◌}

-- the bytes from a place on, one by one
pub cells : (bytes : List ℕ) (o n : ℕ) → o + n ≤ length bytes → take n (drop o bytes) ≡ map (λ k. get_or bytes (o + k) 0) (range_with_len 0 n)
cells bytes o n h =
    fill_by_all (λ k. get_or bytes (o + k) 0) (take n (drop o bytes)) n 0
    (length-take-le n (drop o bytes) (omega (arith, length-drop o bytes)))
    (λ k lt. get_or-take n (drop o bytes) k 0 lt ∙ get_or-drop o bytes k 0)

-- a part of bytes is made of bytes
pub cells_fit : (bytes : List ℕ) (o n : ℕ) → ((i : ℕ) → get_or bytes i 0 < 256) → (i : ℕ) → get_or (take n (drop o bytes)) i 0 < 256
cells_fit bytes o n fits i =
    elim (cases_lt i n) [
      | inl lt ↦ rw (get_or-take n (drop o bytes) i 0 lt, get_or-drop o bytes i 0) (fits (o + i))
      | inr le ↦ rw (get_or_past (take n (drop o bytes)) i 0 (omega (arith, length-take n (drop o bytes)))) (omega arith)
    ]

-- ---- what is read stands there

word_stands : (bytes : List ℕ) (o : ℕ) → o + 4 ≤ length bytes → ((i : ℕ) → get_or bytes i 0 < 256) → to_le_bytes w32 (u32_at bytes o) ≡ take 4 (drop o bytes)
word_stands bytes o h fits =
    let part : take 4 (drop o bytes) ≡ get_or bytes o 0 ∷ get_or bytes (o + 1) 0 ∷ get_or bytes (o + 2) 0 ∷ get_or bytes (o + 3) 0 ∷ [] = cells bytes o 4 h ∙ rw add-zero refl in
    le_bytes_4 (take 4 (drop o bytes)) (u32_at bytes o) (length-take-le 4 (drop o bytes) (omega (arith, length-drop o bytes))) (cells_fit bytes o 4 fits) (ap (from_le_bytes w32) (sym part))

pub words_stand : (bytes : List ℕ) (o a n : ℕ) → o + 4 * (a + n) ≤ length bytes → ((i : ℕ) → get_or bytes i 0 < 256)
    → flat_map (to_le_bytes w32) (map (λ k. u32_at bytes (o + 4 * k)) (range_with_len a n)) ≡ take (4 * n) (drop (o + 4 * a) bytes)
words_stand bytes o a zero h fits = refl
words_stand bytes o a (suc n) h fits =
    let front : to_le_bytes w32 (u32_at bytes (o + 4 * a)) ≡ take 4 (drop (o + 4 * a) bytes) = word_stands bytes (o + 4 * a) (omega arith) fits in
    let rest = words_stand bytes o (a + 1) n (omega arith) fits in
    let next : drop 4 (drop (o + 4 * a) bytes) ≡ drop (o + 4 * (a + 1)) bytes = drop-drop 4 (o + 4 * a) bytes ∙ ap (λ k. drop k bytes) (omega arith) in
    let size : 4 * suc n ≡ 4 + 4 * n = omega arith in
    let split : take (4 * suc n) (drop (o + 4 * a) bytes) ≡ take 4 (drop (o + 4 * a) bytes) ++ take (4 * n) (drop (o + 4 * (a + 1)) bytes) =
    ap (λ k. take k (drop (o + 4 * a) bytes)) size ∙ take-add 4 (4 * n) (drop (o + 4 * a) bytes) ∙ ap (λ (d : List ℕ). take 4 (drop (o + 4 * a) bytes) ++ take (4 * n) d) next in
    ap (λ (x : List ℕ). x ++ flat_map (to_le_bytes w32) (map (λ k. u32_at bytes (o + 4 * k)) (range_with_len (a + 1) n))) front
    ∙ ap (λ (x : List ℕ). take 4 (drop (o + 4 * a) bytes) ++ x) rest
    ∙ sym split

-- ---- what is written is read again

pub length_words : (subs : List ℕ) → length (flat_map (to_le_bytes w32) subs) ≡ 4 * length subs
length_words [] = refl
length_words (x ∷ xs) = omega (arith, length_words xs)

-- the j-th byte of the k-th number
word_cell : (front subs rest : List ℕ) (k j : ℕ) → k < length subs → j < 4
    → get_or (front ++ (flat_map (to_le_bytes w32) subs ++ rest)) ((length front + 4 * k) + j) 0 ≡ get_or (to_le_bytes w32 (get_or subs k 0)) j 0
word_cell front subs rest k j h lt =
    let words = flat_map (to_le_bytes w32) subs in
    let before : length (flat_map (to_le_bytes w32) (take k subs)) ≡ 4 * k = length_words (take k subs) ∙ ap (λ n. 4 * n) (length-take-le k subs (omega arith)) in
    ap (λ i. get_or (front ++ (words ++ rest)) i 0) (add_assoc (length front) (4 * k) j)
    ∙ get_or-append-add front (words ++ rest) (4 * k + j) 0
    ∙ get_or_append_left words rest 0 (4 * k + j) (omega (arith, length_words subs))
    ∙ ap (λ i. get_or words (i + j) 0) (sym before)
    ∙ get_or-flat_map (to_le_bytes w32) subs k j 0 0 h lt

word_again : (front subs rest : List ℕ) (k : ℕ) → All (λ sub. sub < 2 ^ 32) subs → k < length subs
    → u32_at (front ++ (flat_map (to_le_bytes w32) subs ++ rest)) (length front + 4 * k) ≡ get_or subs k 0
word_again front subs rest k small h =
    let bytes = front ++ (flat_map (to_le_bytes w32) subs ++ rest) in
    let first : get_or bytes (length front + 4 * k) 0 ≡ get_or (to_le_bytes w32 (get_or subs k 0)) 0 0 = ap (λ i. get_or bytes i 0) (sym (add-zero (length front + 4 * k))) ∙ word_cell front subs rest k 0 h (omega arith) in
    rw (first, word_cell front subs rest k 1 h (omega arith), word_cell front subs rest k 2 h (omega arith), word_cell front subs rest k 3 h (omega arith))
    (from_le_bytes-to_le_bytes_4 (get_or subs k 0) (All-get_or (λ sub. sub < 2 ^ 32) subs k 0 h small))

pub words_again : (front subs rest : List ℕ) → All (λ sub. sub < 2 ^ 32) subs
    → u32s_at (front ++ (flat_map (to_le_bytes w32) subs ++ rest)) (length front) (length subs) ≡ subs
words_again front subs rest small =
    sym (fill_by_all (λ k. u32_at (front ++ (flat_map (to_le_bytes w32) subs ++ rest)) (length front + 4 * k)) subs (length subs) 0 refl
    (λ k h. sym (word_again front subs rest k small h)))
