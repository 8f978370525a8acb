use Rattle.std.proofs.Common.{length, bit_or}
use Rattle.sd_text.specs.Names.{rows}
use Rattle.sd_text.proofs.Tables.{IsTogether}
use Rattle.sd_text.proofs.cursor.Cursor.bits_of.Given as goal

-- the names so far have been read, and their bits joined
abbrev pub invariant-names : goal.invariant-names
invariant-names l = IsTogether (rows l.names) bit_or 0 l.fn.self.rest.now l.bits l.self.rest.now

abbrev pub decreases-names : goal.decreases-names
decreases-names l = length l.self.rest.now
