-- The index so far keeps what it had, and has the SIDs of the groups so far.
use Rattle.std.proofs.Common.{◌≡◌, true, take}
use Rattle.sd_check.proofs.Cited.{AceKind, SidValue, IsMarked, Keeps, a_group_stands_for}
use Rattle.sd_check.proofs.index.Index.mark_groups.Given as goal

abbrev pub invariant-groups : goal.invariant-groups
invariant-groups l =
    Keeps l.fn.self.heads l.fn.self.nexts l.self.heads l.self.nexts
    × ((kind : AceKind) (s : SidValue) → a_group_stands_for (take l.place-index l.groups) kind s ≡ true → IsMarked l.self.heads l.self.nexts s)
