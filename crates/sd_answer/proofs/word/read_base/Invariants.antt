-- The groups so far are those of the texts so far.
use Rattle.sd_answer.proofs.Cited.{AreGroups, take, texts}
use Rattle.sd_answer.proofs.word.read_base.Given as goal

abbrev pub invariant-loop-place : goal.invariant-loop-place
invariant-loop-place l = AreGroups l.known (texts (take l.place l.texts)) l.groups.items
