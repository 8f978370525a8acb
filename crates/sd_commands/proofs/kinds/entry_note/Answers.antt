use Rattle.std.proofs.Common.{append_assoc}
use Rattle.sd_commands.proofs.kinds.entry_note.Goals as goal

pub returns-in_ok-note-in-Some : goal.returns-in_ok-note-in-Some
returns-in_ok-note-in-Some c = rw (c.in_ok-note-in-Some.ensures.ok, c.kind_by_number-kind.ensures, c.kinds.ensures, c.in-Some.is) (simp append_assoc)
