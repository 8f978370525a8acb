-- Reading restricting SIDs one after the other, as a loop does.
use Rattle.sd_c.proofs.Cited.{Err, NotRead, Ok, Result, SidValue, [], ap, append-nil, arith, false, length, refl, restricting_sid, sid_reading, suc, sym, true, ℕ, ◌+◌, ◌-◌, ◌<◌, ◌==◌, ◌∙◌, ◌≡◌}
use Rattle.std.proofs.Common.{List, ◌∷◌, ◌++◌, drop}
use Rattle.sd_c.specs.Request.{sids_read}
use Rattle.sd_c.proofs.Loop.{behind, regroup}

pub goes_on : (rest : List ℕ) (count k : ℕ) (front : List SidValue) (s : SidValue) (size : ℕ) (total : Result (List SidValue) NotRead)
    → k < count → (length rest == 0) ≡ false → restricting_sid k (sid_reading rest) ≡ Ok (s, size)
    → behind front (sids_read rest k (count - k)) ≡ total → behind (front ++ s ∷ []) (sids_read (drop size rest) (k + 1) (count - (k + 1))) ≡ total
unfolding sids_read
goes_on rest count k front s size total lt some h so_far =
    let left : count - k ≡ suc (count - (k + 1)) = omega arith in
    let one : behind front (sids_read rest k (count - k)) ≡ behind (front ++ s ∷ []) (sids_read (drop size rest) (k + 1) (count - (k + 1))) =
    rw (left, some, h) (regroup front s (sids_read (drop size rest) (k + 1) (count - (k + 1)))) in
    sym one ∙ so_far

pub ends : (rest : List ℕ) (count k : ℕ) (front : List SidValue) (why : NotRead) (total : Result (List SidValue) NotRead)
    → k < count → (length rest == 0) ≡ false → restricting_sid k (sid_reading rest) ≡ Err why
    → behind front (sids_read rest k (count - k)) ≡ total → total ≡ Err why
unfolding sids_read
ends rest count k front why total lt some h so_far =
    let left : count - k ≡ suc (count - (k + 1)) = omega arith in
    let one : behind front (sids_read rest k (count - k)) ≡ Err why = rw (left, some, h) refl in
    sym so_far ∙ one

-- at the end of the bytes there are no more
pub at_the_end : (rest : List ℕ) (count k : ℕ) (front : List SidValue) (total : Result (List SidValue) NotRead)
    → k < count → (length rest == 0) ≡ true → behind front (sids_read rest k (count - k)) ≡ total → total ≡ Ok front
unfolding sids_read
at_the_end rest count k front total lt none so_far =
    let left : count - k ≡ suc (count - (k + 1)) = omega arith in
    let one : behind front (sids_read rest k (count - k)) ≡ Ok front = rw (left, none) (ap (λ (x : List SidValue). Ok x) (append-nil front)) in
    sym so_far ∙ one
