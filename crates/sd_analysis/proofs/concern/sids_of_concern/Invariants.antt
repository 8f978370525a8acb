-- The SIDs with those given so far.
use Rattle.sd_analysis.proofs.Cited.{common_sids, take, with_sid, ◌≡◌}
use Rattle.std.specs.Prelude.{fold}
use Rattle.sd_analysis.proofs.concern.sids_of_concern.Given as goal

abbrev pub invariant-loop-sid : goal.invariant-loop-sid
invariant-loop-sid l = l.sids.items ≡ fold with_sid (common_sids l.entries) (take l.sid-index l.given)
