-- A run that is written over as many elements, block by block.
use Rattle.sd_blocks.proofs.Cited.{Err, IsBlockOf, List, Ok, OnOk, Result, ap, append_assoc, arith, drop, drop-append-add, drop-append-le, drop_at, get_or, joined, length, length-drop, length-take-le, set, suc, sym, take, take-append-add, take-append-drop, take-append-le, take-take, written, ℕ, ◌++◌, ◌+◌, ◌-◌, ◌<◌, ◌∙◌, ◌≡◌, ◌≤◌}
use Rattle.sd_blocks.proofs.Written.{joined_round, joined_set}

module _ {T : Type 0} where
  -- in the middle of three parts
  written_middle : (xs ys zs run : List T) (j : ℕ) → j + length run ≤ length ys → written (length xs + j) run (xs ++ (ys ++ zs)) ≡ xs ++ (written j run ys ++ zs)
  written_middle xs ys zs run j h =
      let n = length run in
      let end : (length xs + j) + n ≡ length xs + (j + n) = omega arith in
      let rest = drop (j + n) ys in
      ap (λ l. l ++ (run ++ drop ((length xs + j) + n) (xs ++ (ys ++ zs)))) (take-append-add xs (ys ++ zs) j ∙ ap (λ l. xs ++ l) (take-append-le j ys zs (omega arith)))
      ∙ ap (λ m. (xs ++ take j ys) ++ (run ++ drop m (xs ++ (ys ++ zs)))) end
      ∙ ap (λ l. (xs ++ take j ys) ++ (run ++ l)) (drop-append-add xs (ys ++ zs) (j + n) ∙ drop-append-le (j + n) ys zs h)
      ∙ append_assoc xs (take j ys) (run ++ (rest ++ zs))
      ∙ ap (λ l. xs ++ (take j ys ++ l)) (sym (append_assoc run rest zs))
      ∙ ap (λ l. xs ++ l) (sym (append_assoc (take j ys) (run ++ rest) zs))

  -- in one block
  written_block : (bs : List (ℕ × List T)) (k j : ℕ) (b b' : ℕ × List T) (run : List T) → k < length bs → b ≡ get_or bs k b → j + length run ≤ length b.1 → b'.1 ≡ written j run b.1 → joined (set bs k b') ≡ written (length (joined (take k bs)) + j) run (joined bs)
  written_block bs k j b b' run inside is within wrote =
      let e1 : b.1 ≡ (get_or bs k b).1 = ap (λ (y : ℕ × List T). y.1) is in
      let before = joined (take k bs) in
      let behind = joined (drop (suc k) bs) in
      joined_set bs k b' inside
      ∙ ap (λ ys. before ++ (ys ++ behind)) (wrote ∙ ap (written j run) e1)
      ∙ sym (written_middle before (get_or bs k b).1 behind run j (omega (arith, within, ap length e1)))
      ∙ ap (written (length before + j) run) (sym (joined_round bs k b inside))

  -- the end of a run is written, and then what is before it
  written_rest : (at c : ℕ) (run xs : List T) → c ≤ length run → at + length run ≤ length xs → written at (take c run) (written (at + c) (drop c run) xs) ≡ written at run xs
  written_rest at c run xs some fits =
      let rest = drop c run ++ drop ((at + c) + length (drop c run)) xs in
      let front : length (take (at + c) xs) ≡ at + c = length-take-le (at + c) xs (omega arith) in
      let counted : length (take c run) ≡ c = length-take-le c run some in
      let end : (at + c) + length (drop c run) ≡ at + length run = omega (arith, length-drop c run) in
      ap (λ l. l ++ (take c run ++ drop (at + length (take c run)) (take (at + c) xs ++ rest))) (take-append-le at (take (at + c) xs) rest (omega (arith, front)) ∙ take-take at (at + c) xs (omega arith))
      ∙ ap (λ n. take at xs ++ (take c run ++ drop (at + n) (take (at + c) xs ++ rest))) counted
      ∙ ap (λ l. take at xs ++ (take c run ++ l)) (drop_at (take (at + c) xs) rest (at + c) front)
      ∙ ap (λ n. take at xs ++ (take c run ++ (drop c run ++ drop n xs))) end
      ∙ ap (λ l. take at xs ++ l) (sym (append_assoc (take c run) (drop c run) (drop (at + length run) xs)))
      ∙ ap (λ l. take at xs ++ (l ++ drop (at + length run) xs)) (take-append-drop c run)

  -- the last block is written
  last_written : (bs : List (ℕ × List T)) (at k : ℕ) (b b' : ℕ × List T) (last start before : ℕ) (run left end : List T) → last + 1 ≡ at + length run → at + length run ≤ length (joined bs) → IsBlockOf bs last k → b ≡ get_or bs k b → start ≡ b.0 → before ≡ start - at
      → left ≡ take before run → end ≡ drop before run → b'.1 ≡ written (at + before - start) end b.1 → written at left (joined (set bs k b')) ≡ written at run (joined bs)
  last_written bs at k b b' last start before run left end lasts fits found is starts first lefts ends wrote =
      let e0 : b.0 ≡ (get_or bs k b).0 = ap (λ (y : ℕ × List T). y.0) is in
      let e1 : b.1 ≡ (get_or bs k b).1 = ap (λ (y : ℕ × List T). y.1) is in
      let in_list : last < length (joined bs) = omega arith in
      let few : before ≤ length run = omega (arith, found.from b) in
      let place : length (joined (take k bs)) + (at + before - start) ≡ at + before = omega (arith, found.first b) in
      let within : (at + before - start) + length (drop before run) ≤ length b.1 = omega (arith, length-drop before run, found.from b, found.before_end b in_list, ap length e1) in
      let wrote' : b'.1 ≡ written (at + before - start) (drop before run) b.1 = wrote ∙ ap (λ l. written (at + before - start) l b.1) ends in
      ap (λ l. written at l (joined (set bs k b'))) lefts
      ∙ ap (written at (take before run)) (written_block bs k (at + before - start) b b' (drop before run) found.inside is within wrote' ∙ ap (λ n. written n (drop before run) (joined bs)) place)
      ∙ written_rest at before run (joined bs) few fits

  pub last_written_ok : {E R : Type 0} (r : Result R E) (bs : List (ℕ × List T)) (at k : ℕ) (b b' : ℕ × List T) (last start before : ℕ) (run left end : List T) → last + 1 ≡ at + length run → at + length run ≤ length (joined bs) → IsBlockOf bs last k → b ≡ get_or bs k b → start ≡ b.0 → before ≡ start - at
      → left ≡ take before run → end ≡ drop before run → OnOk r (b'.1 ≡ written (at + before - start) end b.1) → OnOk r (written at left (joined (set bs k b')) ≡ written at run (joined bs))
  last_written_ok (Ok _) bs at k b b' last start before run left end lasts fits found is starts first lefts ends wrote = last_written bs at k b b' last start before run left end lasts fits found is starts first lefts ends wrote
  last_written_ok (Err _) bs at k b b' last start before run left end lasts fits found is starts first lefts ends wrote = tt
