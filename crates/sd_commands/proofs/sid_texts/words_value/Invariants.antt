-- The words so far.
use Rattle.std.proofs.Common.{◌≡◌, map, string_bytes, take}
use Rattle.sd_commands.proofs.sid_texts.words_value.Given as goal

abbrev pub invariant-loop-word : goal.invariant-loop-word
invariant-loop-word l = map (λ word. word.now) l.lent.items ≡ map string_bytes (take l.word-index l.words)
