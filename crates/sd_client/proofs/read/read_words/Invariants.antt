-- The words so far are those of the texts so far.
use Rattle.std.proofs.Common.{take}
use Rattle.sd_answer.specs.Word.{AreEach, texts}
use Rattle.sd_client.specs.Word.{IsClientWord}
use Rattle.sd_client.proofs.read.read_words.Given as goal

abbrev pub invariant-loop-place : goal.invariant-loop-place
invariant-loop-place l = AreEach (IsClientWord l.known) (texts (take l.place l.texts)) l.words.items
