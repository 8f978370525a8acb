-- Some of a list's blocks, as a list.
use Rattle.sd_blocks.proofs.Cited.{AreParts, List, StartFrom, [], ap, arith, drop, flat_map-append, get_or, joined, length, length-append, lowered, map, refl, suc, sym, take, take-append-drop, zero, ℕ, ◌++◌, ◌+◌, ◌-◌, ◌<◌, ◌∙◌, ◌∷◌, ◌≡◌, ◌≤◌}
use Rattle.sd_blocks.proofs.Starts.{start_at}
use Rattle.sd_blocks.proofs.Searched.{start_within}

module _ {T : Type 0} where
  pub starts_lowered : (n by : ℕ) (bs : List (ℕ × List T)) → StartFrom (n + by) bs → StartFrom n (map (lowered by) bs)
  starts_lowered n by [] s = tt
  starts_lowered n by (b ∷ bs) s =
      let next : (n + by) + length b.1 ≡ (n + length b.1) + by = omega arith in
      let rest = rw next at s.2 in
      (omega (arith, s.0), s.1, starts_lowered (n + length b.1) by bs rest)

  pub joined_lowered : (by : ℕ) (bs : List (ℕ × List T)) → joined (map (lowered by) bs) ≡ joined bs
  joined_lowered by [] = refl
  joined_lowered by (b ∷ bs) = ap (λ l. b.1 ++ l) (joined_lowered by bs)

  pub part_invariant : (by len : ℕ) (bs out : List (ℕ × List T)) → StartFrom by bs → len ≡ length (joined bs) → out ≡ map (lowered by) bs → StartFrom 0 out × len ≡ length (joined out)
  part_invariant by len bs out s lens is =
      let zero_by : by ≡ 0 + by = omega arith in
      let start = rw zero_by at s in
      (rw is (starts_lowered 0 by bs start), rw is (lens ∙ ap length (sym (joined_lowered by bs))))

  starts_split : (n : ℕ) (bs : List (ℕ × List T)) (k : ℕ) → StartFrom n bs → StartFrom n (take k bs) × StartFrom (n + length (joined (take k bs))) (drop k bs)
  starts_split n bs zero s = (let same : n + 0 ≡ n = omega arith in (tt, rw same s))
  starts_split n [] (suc k) s = (tt, tt)
  starts_split n (b ∷ bs) (suc k) s =
      let rest = starts_split (n + length b.1) bs k s.2 in
      let same : n + length (b.1 ++ joined (take k bs)) ≡ (n + length b.1) + length (joined (take k bs)) = omega (arith, length-append b.1 (joined (take k bs))) in
      ((s.0, s.1, rest.0), rw same rest.1)

  pub low_starts : (bs : List (ℕ × List T)) (k : ℕ) → StartFrom 0 bs → StartFrom 0 (take k bs)
  low_starts bs k s = (starts_split 0 bs k s).0

  pub high_starts : (bs : List (ℕ × List T)) (k by : ℕ) → StartFrom 0 bs → by ≡ length (joined (take k bs)) → StartFrom by (drop k bs)
  high_starts bs k by s is =
      let same : 0 + length (joined (take k bs)) ≡ by = omega (arith, is) in
      rw same at (starts_split 0 bs k s).1

  pub parts_join : (bs : List (ℕ × List T)) (k : ℕ) → joined (take k bs) ++ joined (drop k bs) ≡ joined bs
  parts_join bs k = sym (flat_map-append (λ (b : ℕ × List T). b.1) (take k bs) (drop k bs)) ∙ ap joined (take-append-drop k bs)

  pub parts_length : (bs : List (ℕ × List T)) (k by len : ℕ) → by ≡ length (joined (take k bs)) → len ≡ length (joined bs) → len - by ≡ length (joined (drop k bs))
  parts_length bs k by len is lens =
      omega (arith, is, lens, ap length (parts_join bs k), length-append (joined (take k bs)) (joined (drop k bs)))

  pub begins_from : (by : ℕ) (bs : List (ℕ × List T)) (k : ℕ) (b : ℕ × List T) → StartFrom by bs → k < length bs → b ≡ get_or bs k b → by ≤ b.0
  begins_from by bs k b s h is = omega (arith, start_at by bs k b s h, ap (λ (y : ℕ × List T). y.0) is)

  -- both parts have elements
  pub low_some : (bs : List (ℕ × List T)) (k : ℕ) (b : ℕ × List T) (by : ℕ) → StartFrom 0 bs → 0 < k → k < length bs → by ≡ length (joined (take k bs)) → 0 < by
  low_some [] k b by s p h is = absurd (omega arith)
  low_some (c ∷ bs) zero b by s p h is = absurd (omega arith)
  low_some (c ∷ bs) (suc k) b by s p h is = omega (arith, is, s.1, length-append c.1 (joined (take k bs)))

  pub parts_made : (bs : List (ℕ × List T)) (k by : ℕ) (b : ℕ × List T) (low high : List T) → StartFrom 0 bs → 0 < k → k < length bs → b ≡ get_or bs k b → by ≡ length (joined (take k bs)) → low ≡ joined (take k bs) → high ≡ joined (drop k bs) → AreParts (joined bs) low high
  parts_made bs k by b low high s p h is start low_is high_is = record {
    low_some = omega (arith, low_some bs k b by s p h start, start, ap length low_is);
    high_some = omega (arith, start_within bs k b s h is, ap length high_is, ap length (parts_join bs k), length-append (joined (take k bs)) (joined (drop k bs)));
    joins = ap (λ l. l ++ high) low_is ∙ ap (λ l. joined (take k bs) ++ l) high_is ∙ parts_join bs k;
  }
