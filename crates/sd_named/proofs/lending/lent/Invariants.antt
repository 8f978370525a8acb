-- What is borrowed so far are the texts of the words so far.
use Rattle.std.proofs.Common.{◌≡◌, map, string_bytes, take}
use Rattle.sd_answer.specs.Word.{texts}
use Rattle.sd_named.proofs.lending.lent.Given as goal

abbrev pub invariant-loop-word : goal.invariant-loop-word
invariant-loop-word l = texts l.lent.items ≡ map string_bytes (take l.word-index l.words)
