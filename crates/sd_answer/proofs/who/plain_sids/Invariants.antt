-- The SIDs so far.
use Rattle.sd_answer.proofs.Cited.{plain_sids, take, ◌≡◌}
use Rattle.sd_answer.proofs.who.plain_sids.Given as goal

abbrev pub invariant-loop-sid : goal.invariant-loop-sid
invariant-loop-sid l = l.marked.items ≡ plain_sids (take l.sid-index l.sids)
