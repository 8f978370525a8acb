use Rattle.std.proofs.Common.{◌≡◌, drop}
use Rattle.sd_text.proofs.Letters.{matches}
use Rattle.sd_text.proofs.cursor.begins.Given as goal

-- the letters that have been passed stand there
abbrev pub invariant-loop-i : goal.invariant-loop-i
invariant-loop-i l = matches l.letters l.text ≡ matches (drop l.i l.letters) (drop l.i l.text)
