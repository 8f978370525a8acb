-- The client so far has what the words so far say.
use Rattle.std.proofs.Common.{fold, ◌≡◌}
use Rattle.sd_client.specs.Word.{level_of, nothing, with_client_word}
use Rattle.sd_client.proofs.client.client_of.Given as goal

abbrev pub invariant-loop-word : goal.invariant-loop-word
invariant-loop-word l = l.parts ≡ fold with_client_word (nothing l.fn.user (level_of l.fn.words.items)) l.yielded
