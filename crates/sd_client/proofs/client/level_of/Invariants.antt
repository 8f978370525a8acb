-- The lowest level of the words so far.
use Rattle.std.proofs.Common.{None, fold, map, take, ◌≡◌}
use Rattle.sd_client.specs.Word.{level_in, lower}
use Rattle.sd_client.proofs.client.level_of.Given as goal

abbrev pub invariant-loop-word : goal.invariant-loop-word
invariant-loop-word l = l.lowest ≡ fold lower None (map level_in (take l.word-index l.words))
