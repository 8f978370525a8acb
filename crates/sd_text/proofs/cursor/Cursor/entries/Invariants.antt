use Rattle.sd_text.proofs.Cited.{entry, length}
use Rattle.sd_text.proofs.Entries.{Parsed}
use Rattle.sd_text.proofs.cursor.Cursor.entries.Given as goal

-- the entries that were parsed, and their list's size
abbrev pub invariant-entries : goal.invariant-entries
invariant-entries l = Parsed (entry l.known) l.fn.self.rest.now l.entries.items l.stored l.size l.self.rest.now

abbrev pub decreases-entries : goal.decreases-entries
decreases-entries l = length l.self.rest.now
