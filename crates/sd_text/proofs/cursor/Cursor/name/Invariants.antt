use Rattle.sd_text.proofs.Cited.{drop, named, rows, ◌≡◌}
use Rattle.sd_text.proofs.cursor.Cursor.name.Given as goal

-- none of the rows so far stands there
abbrev pub invariant-loop-letters : goal.invariant-loop-letters
invariant-loop-letters g l = record {
  still : l.self.rest.now ≡ l.fn.self.rest.now;
  none : named (rows l.names) l.fn.self.rest.now ≡ named (rows (drop l.letters-index l.names)) l.fn.self.rest.now;
}
