-- The index so far is that of the user and the groups so far, with the places of all others marked.
use Rattle.sd_check.proofs.Cited.{IsIndex, IsMarked, MarksEach}
use Rattle.sd_check.proofs.index.Index.new.Given as goal

abbrev pub invariant-loop-number : goal.invariant-loop-number
invariant-loop-number l =
    IsIndex l.index.heads l.index.nexts l.groups l.number
    × IsMarked l.index.heads l.index.nexts l.user
    × MarksEach l.index.heads l.index.nexts l.groups l.restricting
