-- The texts of the words so far.
use Rattle.std.proofs.Common.{◌≡◌, map, string_bytes, take}
use Rattle.sd_line.proofs.printer.Printer.word_texts.Given as goal

abbrev pub invariant-loop-word : goal.invariant-loop-word
invariant-loop-word l = map string_bytes l.texts.items ≡ take l.word-index l.words
