-- Reading groups one after the other, as a loop does.
use Rattle.sd_c.proofs.Cited.{Err, GroupState, NotRead, Ok, Result, SidValue, [], ap, append_assoc, arith, group_read, refl, slice_index, suc, sym, ℕ, ◌+◌, ◌-◌, ◌<◌, ◌>>=◌, ◌∙◌, ◌≡◌}
use Rattle.std.proofs.Common.{List, ◌∷◌, ◌++◌, drop}
use Rattle.sd_c.specs.Request.{groups_read}

-- what was read before, and what is still read
abbrev pub behind : {A : Type 0} → List A → Result (List A) NotRead → Result (List A) NotRead
behind front read = read >>= λ others. Ok (front ++ others)

pub regroup : {A : Type 0} (front : List A) (x : A) (read : Result (List A) NotRead) → behind front (read >>= λ others. Ok (x ∷ others)) ≡ behind (front ++ x ∷ []) read
regroup front x (Ok others) = ap (λ xs. Ok xs) (simp append_assoc)
regroup front x (Err why) = refl

pub goes_on : (rest : List ℕ) (states : List ℕ) (count k : ℕ) (front : List (SidValue × GroupState)) (g : SidValue × GroupState) (size : ℕ) (total : Result (List (SidValue × GroupState)) NotRead)
    → k < count → group_read rest (slice_index states k) k ≡ Ok (g, size)
    → behind front (groups_read rest states k (count - k)) ≡ total → behind (front ++ g ∷ []) (groups_read (drop size rest) states (k + 1) (count - (k + 1))) ≡ total
unfolding groups_read
goes_on rest states count k front g size total lt h so_far =
    let left : count - k ≡ suc (count - (k + 1)) = omega arith in
    let one : behind front (groups_read rest states k (count - k)) ≡ behind (front ++ g ∷ []) (groups_read (drop size rest) states (k + 1) (count - (k + 1))) = rw (left, h) (regroup front g (groups_read (drop size rest) states (k + 1) (count - (k + 1)))) in
    sym one ∙ so_far

pub ends : (rest : List ℕ) (states : List ℕ) (count k : ℕ) (front : List (SidValue × GroupState)) (why : NotRead) (total : Result (List (SidValue × GroupState)) NotRead)
    → k < count → group_read rest (slice_index states k) k ≡ Err why
    → behind front (groups_read rest states k (count - k)) ≡ total → total ≡ Err why
unfolding groups_read
ends rest states count k front why total lt h so_far =
    let left : count - k ≡ suc (count - (k + 1)) = omega arith in
    let one : behind front (groups_read rest states k (count - k)) ≡ Err why = rw (left, h) refl in
    sym so_far ∙ one
