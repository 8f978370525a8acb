-- The notes so far are those of the entries so far.
use Rattle.sd_commands.proofs.Cited.{notes_below, string_bytes, ◌≡◌}
use Rattle.sd_commands.proofs.sort.list_notes.Given as goal

abbrev pub invariant-loop-place : goal.invariant-loop-place
invariant-loop-place l = string_bytes l.text ≡ notes_below l.spelling l.entries l.place
