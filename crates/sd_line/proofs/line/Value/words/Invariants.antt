-- The words so far.
use Rattle.std.proofs.Common.{◌≡◌, map, take}
use Rattle.sd_line.proofs.line.Value.words.Given as goal

abbrev pub invariant-loop-word : goal.invariant-loop-word
invariant-loop-word l = l.texts.items ≡ map (λ word. word.now) (take l.word-index l.words)
