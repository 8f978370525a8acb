use Rattle.std.proofs.Common.{bit_or, length}
use Rattle.sd_text.specs.Names.{rows}
use Rattle.sd_text.proofs.Tables.{IsTogether}
use Rattle.sd_whole_parse.proofs.fields.read_bits.Given as goal

-- the names so far have been read, and their bits joined
abbrev pub invariant-names : goal.invariant-names
invariant-names l = IsTogether (rows l.names) bit_or 0 l.fn.cursor.rest.now l.bits l.cursor.rest.now

abbrev pub decreases-names : goal.decreases-names
decreases-names l = length l.cursor.rest.now
