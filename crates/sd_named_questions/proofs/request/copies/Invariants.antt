-- The copies so far are those of the words so far.
use Rattle.std.proofs.Common.{◌≡◌, map, string_bytes, take}
use Rattle.sd_answer.specs.Word.{texts}
use Rattle.sd_named_questions.proofs.request.copies.Given as goal

abbrev pub invariant-loop-word : goal.invariant-loop-word
invariant-loop-word l = map string_bytes l.copies.items ≡ texts (take l.word-index l.words)
