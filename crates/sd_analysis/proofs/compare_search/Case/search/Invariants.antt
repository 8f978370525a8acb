-- What is found so far; and of the SIDs so far nothing is left to find.
use Rattle.sd_analysis.proofs.Cited.{HasRoom, IsFound, IsSought, PassSids, SidValue, Some, false, holds, is_among, is_granted_alone, sids_meet, take, true, ℕ, ◌<◌, ◌≡◌}
use Rattle.sd_analysis.proofs.compare_search.Case.search.Given as goal

abbrev pub invariant-loop-place : goal.invariant-loop-place
invariant-loop-place l = record {
  room : l.demand.unlisted ≡ true → HasRoom l.self l.both;
  found : IsFound l.self l.pass l.demand l.fn.wanted l.found;
  gone : (sids : PassSids) (b : ℕ) → b < 21 → is_among (take l.place l.self.allowed.items) sids.allowed ≡ true
      → ((s : SidValue) → sids.denied ≡ Some s → is_among l.self.denied.items s ≡ true)
      → ((s : SidValue) → sids.denied ≡ Some s → l.demand.unlisted ≡ true)
      → is_granted_alone l.self l.pass l.demand sids.allowed b ≡ true
      → IsSought l.self l.pass l.demand sids b
      → sids_meet l.self l.pass l.demand sids b ≡ true → holds l.found.left b ≡ false;
}
