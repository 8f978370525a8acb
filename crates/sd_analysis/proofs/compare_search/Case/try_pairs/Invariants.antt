-- What is found so far; and with the SIDs so far nothing is left to find.
use Rattle.sd_analysis.proofs.Cited.{IsFound, IsLessLeft, SidValue, Some, false, holds, is_among, sids_meet, take, true, ℕ, ◌<◌, ◌≡◌}
use Rattle.sd_analysis.proofs.compare_search.Case.try_pairs.Given as goal

abbrev pub invariant-loop-number : goal.invariant-loop-number
invariant-loop-number l = record {
  found : (wanted : ℕ) → IsFound l.self l.pass l.demand wanted l.fn.found → IsFound l.self l.pass l.demand wanted l.found;
  less : IsLessLeft l.fn.found l.found;
  gone : (s : SidValue) (b : ℕ) → b < 21 → is_among (take l.number l.self.denied.items) s ≡ true
      → sids_meet l.self l.pass l.demand (record { allowed = l.allowed; denied = Some s }) b ≡ true → holds l.found.left b ≡ false;
}
