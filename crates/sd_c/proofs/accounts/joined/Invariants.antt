-- The bytes so far are those of the SIDs so far.
use Rattle.std.proofs.Common.{take, ◌≡◌}
use Rattle.std.specs.List.{flat_map}
use Rattle.sd_sid.specs.SidBytes.{bytes_of_sid}
use Rattle.sd_c.proofs.accounts.joined.Given as goal

abbrev pub invariant-loop-sid : goal.invariant-loop-sid
invariant-loop-sid l = l.bytes.items ≡ flat_map bytes_of_sid (take l.sid-index l.sids)
