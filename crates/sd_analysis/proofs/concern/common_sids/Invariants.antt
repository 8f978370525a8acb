-- The SIDs with those of the entries so far.
use Rattle.sd_analysis.proofs.Cited.{take, wide_sids, with_sid_of, ◌≡◌}
use Rattle.std.specs.Prelude.{fold}
use Rattle.sd_analysis.proofs.concern.common_sids.Given as goal

abbrev pub invariant-loop-entry : goal.invariant-loop-entry
invariant-loop-entry l = l.sids.items ≡ fold with_sid_of wide_sids (take l.entry-index l.entries)
