use Rattle.std.proofs.Common.{length}
use Rattle.sd_whole_parse.proofs.Loop.{Parsed}
use Rattle.sd_whole_parse.proofs.entry.read_entries.Given as goal

-- the entries that were parsed, and their list's size
abbrev pub invariant-entries : goal.invariant-entries
invariant-entries l = Parsed l.known l.fn.cursor.rest.now l.entries.items l.size l.cursor.rest.now

abbrev pub decreases-entries : goal.decreases-entries
decreases-entries l = length l.cursor.rest.now
