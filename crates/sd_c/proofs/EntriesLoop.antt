-- Reading entries one after the other, as a loop does.
use Rattle.std.proofs.Common.{List, Ok, [], ap, drop, subst, sym, ℕ, ◌++◌, ◌∷◌, ◌≡◌}
use Rattle.sd_whole.specs.Reading.{whole_entry_read}
use Rattle.sd_whole.specs.declared.ace.WholeAce.{WholeAce}
use Rattle.sd_c.specs.WithEntries.{StartsWith}

-- the entry after those so far is one more of them
pub goes_on : (bytes : List ℕ) (es : List WholeAce) (rest : List ℕ) (e : WholeAce) (n : ℕ) → whole_entry_read rest ≡ Ok (e, n)
    → StartsWith bytes es rest → StartsWith bytes (es ++ e ∷ []) (drop n rest)
goes_on bytes [] rest e n read same = (n, subst (λ (x : List ℕ). whole_entry_read x ≡ Ok (e, n)) (sym same) read, ap (drop n) same)
goes_on bytes (x ∷ es) rest e n read so_far =
    (so_far.0, so_far.1, goes_on (drop so_far.0 bytes) es rest e n read so_far.2)
