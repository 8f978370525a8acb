-- None so far is the SID.
use Rattle.sd_analysis.proofs.Cited.{drop, length, place_in, ◌+◌, ◌≡◌, ◌≤◌}
use Rattle.sd_analysis.proofs.places.place_of.Given as goal

abbrev pub invariant-loop-place : goal.invariant-loop-place
invariant-loop-place l = record {
  within : l.place ≤ length l.sids;
  so_far : place_in l.sids l.sid ≡ l.place + place_in (drop l.place l.sids) l.sid;
}
