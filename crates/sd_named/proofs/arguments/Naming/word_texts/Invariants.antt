-- The texts so far are those of the words so far.
use Rattle.std.proofs.Common.{◌≡◌, map, string_bytes, take}
use Rattle.sd_named.specs.Arguments.{word_text}
use Rattle.sd_named.proofs.arguments.Naming.word_texts.Given as goal

abbrev pub invariant-loop-one : goal.invariant-loop-one
invariant-loop-one l = map string_bytes l.named.items ≡ map word_text (take l.one-index l.ones)
