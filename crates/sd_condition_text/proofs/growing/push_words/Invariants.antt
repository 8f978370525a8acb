-- The text so far, and the words that are left.
use Rattle.std.proofs.Common.{length, string_bytes, ◌++◌, ◌≡◌}
use Rattle.sd_condition_text.specs.Growing.{words_text}
use Rattle.sd_condition_text.proofs.growing.push_words.Given as goal

abbrev pub invariant-loop-word : goal.invariant-loop-word
invariant-loop-word l = string_bytes l.out ++ words_text l.left.items ≡ string_bytes l.fn.out ++ words_text l.fn.words.items

abbrev pub decreases-loop-word : goal.decreases-loop-word
decreases-loop-word l = length l.left.items
