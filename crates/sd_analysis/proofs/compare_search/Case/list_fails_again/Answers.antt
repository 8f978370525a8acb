use Rattle.std.proofs.Common.{inr}
use Rattle.sd_analysis.proofs.Restricted.{less_asked}
use Rattle.sd_analysis.proofs.compare_search.Case.list_fails_again.Goals as goal

pub returns-then-not-is_met-clause-list : goal.returns-then-not-is_met-clause-list
returns-then-not-is_met-clause-list c = λ b low still not_gained t has. c.in_ok-is_met.ensures.complete b low still not_gained t has

pub returns-then-not-is_met-clause-both : goal.returns-then-not-is_met-clause-both
returns-then-not-is_met-clause-both c = λ b low still not_gained t has.
    inr (less_asked c.args.self.now c.args.by_owner t b (c.in_ok-is_met.ensures.none c.if-not-is_met.true b low still t has))

pub returns-clause-list : goal.returns-clause-list
returns-clause-list c = λ b low still not_gained t has.
    c.in_ok-is_met.ensures.complete b low (c.in_ok-second_then_first.ensures.less b still) not_gained t has

pub returns-clause-both : goal.returns-clause-both
returns-clause-both c = λ b low still not_gained t has. c.in_ok-second_then_first.ensures.complete b low still not_gained t has
