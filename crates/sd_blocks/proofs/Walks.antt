-- A run of a block is one of the list.
use Rattle.sd_blocks.proofs.Cited.{IsBlockOf, IsRunAt, List, ap, arith, drop, drop-append-add, drop-append-le, get_or, joined, length, length-take, suc, sym, take, take-append-le, ℕ, ◌++◌, ◌+◌, ◌-◌, ◌<◌, ◌∙◌, ◌≡◌, ◌≤◌}
use Rattle.sd_blocks.proofs.Written.{joined_round}

pub run_joined : {T : Type 0} (bs : List (ℕ × List T)) (at k : ℕ) (b : ℕ × List T) (start : ℕ) (ys : List T) → IsBlockOf bs at k → at < length (joined bs) → b ≡ get_or bs k b → start ≡ b.0 → IsRunAt b.1 (at - start) ys → IsRunAt (joined bs) at ys
run_joined {T} bs at k b start ys found in_list is starts run =
    let e0 : b.0 ≡ (get_or bs k b).0 = ap (λ (y : ℕ × List T). y.0) is in
    let e1 : b.1 ≡ (get_or bs k b).1 = ap (λ (y : ℕ × List T). y.1) is in
    let j : ℕ = at - start in
    let within : j < length b.1 = omega (arith, found.from b, found.before_end b in_list, ap length e1) in
    let place : length (joined (take k bs)) + j ≡ at = omega (arith, found.first b, found.from b) in
    let behind = joined (drop (suc k) bs) in
    let fits : length ys ≤ length (drop j b.1) = omega (arith, ap length run.elements, length-take (length ys) (drop j b.1)) in
    let round : joined bs ≡ joined (take k bs) ++ (b.1 ++ behind) = joined_round bs k b found.inside ∙ ap (λ l. joined (take k bs) ++ (l ++ behind)) (sym e1) in
    let rest : drop at (joined bs) ≡ drop j b.1 ++ behind =
    ap (λ i. drop i (joined bs)) (sym place) ∙ ap (drop (length (joined (take k bs)) + j)) round ∙ drop-append-add (joined (take k bs)) (b.1 ++ behind) j ∙ drop-append-le j b.1 behind (omega arith) in
    record {
      some = run.some;
      elements = run.elements ∙ sym (take-append-le (length ys) (drop j b.1) behind fits) ∙ ap (take (length ys)) (sym rest);
    }
