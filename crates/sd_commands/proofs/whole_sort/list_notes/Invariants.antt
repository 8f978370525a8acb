-- The notes so far are those of the entries so far.
use Rattle.sd_commands.proofs.Cited.{string_bytes, ◌≡◌}
use Rattle.sd_commands.specs.WholeSort.{notes_below}
use Rattle.sd_commands.proofs.whole_sort.list_notes.Given as goal

abbrev pub invariant-loop-place : goal.invariant-loop-place
invariant-loop-place l = string_bytes l.text ≡ notes_below l.entries l.place
