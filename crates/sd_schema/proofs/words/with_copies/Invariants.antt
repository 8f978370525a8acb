-- The words so far, and those that stood before.
use Rattle.std.proofs.Common.{map, string_bytes, take, ◌++◌, ◌≡◌}
use Rattle.sd_answer.specs.Word.{texts}
use Rattle.sd_schema.proofs.words.with_copies.Given as goal

abbrev pub invariant-loop-word : goal.invariant-loop-word
invariant-loop-word l = map string_bytes l.own.items ≡ map string_bytes l.fn.begun.items ++ texts (take l.word-index l.words)
