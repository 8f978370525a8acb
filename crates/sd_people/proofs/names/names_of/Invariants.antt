-- What is kept is right, and it is of all SIDs so far.
use Rattle.std.proofs.Common.{take}
use Rattle.sd_accounts.specs.Accounts.{rows_of}
use Rattle.sd_people.specs.Names.{AreRight}
use Rattle.sd_people.proofs.Kept.{AreKept}
use Rattle.sd_people.proofs.names.names_of.Given as goal

abbrev pub invariant-loop-sid : goal.invariant-loop-sid
invariant-loop-sid l = record { right : AreRight (rows_of l.accounts) l.known l.map; kept : AreKept l.map (take l.sid-index l.sids) }
