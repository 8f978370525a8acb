-- The SIDs so far, each once.
use Rattle.std.proofs.Common.{[], ◌≡◌, take}
use Rattle.std.specs.Prelude.{fold}
use Rattle.sd_analysis.specs.Risks.{with_sid}
use Rattle.sd_people.proofs.sids.once.Given as goal

abbrev pub invariant-loop-sid : goal.invariant-loop-sid
invariant-loop-sid l = l.found.items ≡ fold with_sid [] (take l.sid-index l.sids)
