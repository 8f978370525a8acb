-- Where the blocks of a list start.
use Rattle.sd_blocks.proofs.Cited.{IsBlockOf, List, StartFrom, [], add-one, ap, arith, cases_lt, get_or, inl, inr, joined, length, length-append, suc, sym, take, take_all, zero, ℕ, ◌+◌, ◌<◌, ◌∙◌, ◌∷◌, ◌≡◌, ◌≤◌, ◌⊎◌}

-- the k-th block starts behind the blocks before it
pub start_at : {T : Type 0} (n : ℕ) (bs : List (ℕ × List T)) (k : ℕ) (d : ℕ × List T) → StartFrom n bs → k < length bs → (get_or bs k d).0 ≡ n + length (joined (take k bs))
start_at n [] k d s h = omega arith
start_at n (b ∷ bs) zero d s h = grind (arith, s.0)
start_at n (b ∷ bs) (suc k) d s h =
    let rest : (get_or bs k d).0 ≡ (n + length b.1) + length (joined (take k bs)) = start_at (n + length b.1) bs k d s.2 (omega arith) in
    omega (arith, rest, length-append b.1 (joined (take k bs)))

-- one block more
joined_suc : {T : Type 0} (bs : List (ℕ × List T)) (k : ℕ) (d : ℕ × List T) → k < length bs → length (joined (take (suc k) bs)) ≡ length (joined (take k bs)) + length (get_or bs k d).1
joined_suc [] k d h = omega arith
joined_suc (b ∷ bs) zero d h = omega (arith, length-append b.1 [])
joined_suc (b ∷ bs) (suc k) d h =
    omega (arith, joined_suc bs k d (omega arith), length-append b.1 (joined (take (suc k) bs)), length-append b.1 (joined (take k bs)))

pub joined_more : {T : Type 0} (bs : List (ℕ × List T)) (k : ℕ) (d : ℕ × List T) → k < length bs → length (joined (take (k + 1) bs)) ≡ length (joined (take k bs)) + length (get_or bs k d).1
joined_more bs k d h = rw add-one (joined_suc bs k d h)

-- the place at the end of the search, at both ends of its block
upper_at : {T : Type 0} (bs : List (ℕ × List T)) (at k high : ℕ) → high ≤ length bs → k < high → high ≤ k + 1 → (high < length bs → at < length (joined (take high bs))) → (d : ℕ × List T) → (at < length (joined (take k bs)) + length (get_or bs k d).1) ⊎ (length (joined bs) ≡ length (joined (take k bs)) + length (get_or bs k d).1)
upper_at bs at k high inside below end high_at d =
    let is : high ≡ k + 1 = omega arith in
    let more = joined_more bs k d (omega arith) in
    elim (cases_lt (k + 1) (length bs)) [
      | inl lt ↦ inl (let here = rw is at high_at in omega (arith, here lt, more))
      | inr le ↦ inr (ap (λ l. length (joined l)) (sym (take_all (k + 1) bs le)) ∙ more)
    ]

-- the block that a search ends at
pub block_found : {T : Type 0} (bs : List (ℕ × List T)) (at k high : ℕ) → StartFrom 0 bs → at ≤ length (joined bs) → high ≤ length bs → k < high → high ≤ k + 1 → length (joined (take k bs)) ≤ at → (high < length bs → at < length (joined (take high bs))) → IsBlockOf bs at k
block_found bs at k high s placed inside below end low high_at = record {
  inside = omega arith;
  first = λ d. omega (arith, start_at 0 bs k d s (omega arith));
  from = λ d. omega (arith, start_at 0 bs k d s (omega arith));
  to = λ d. (let start = start_at 0 bs k d s (omega arith) in elim (upper_at bs at k high inside below end high_at d) [ inl lt ↦ omega (arith, start, lt) | inr is ↦ omega (arith, start, is) ]);
  before_end = λ d lt_all. (let start = start_at 0 bs k d s (omega arith) in elim (upper_at bs at k high inside below end high_at d) [ inl lt ↦ omega (arith, start, lt) | inr is ↦ omega (arith, start, is) ]);
}

-- the start that a block knows
pub start_here : {T : Type 0} (bs : List (ℕ × List T)) (k : ℕ) (b : ℕ × List T) (start : ℕ) → StartFrom 0 bs → k < length bs → b ≡ get_or bs k b → start ≡ b.0 → start ≡ length (joined (take k bs))
start_here {T} bs k b start s inside is starts =
    let there : (get_or bs k b).0 ≡ 0 + length (joined (take k bs)) = start_at 0 bs k b s inside in
    starts ∙ ap (λ (x : ℕ × List T). x.0) is ∙ (omega (arith, there))
