use Rattle.sd_analysis.proofs.Restricted.{never_again, refused_without_base}
use Rattle.sd_analysis.proofs.compare_search.Case.restricted.Goals as goal

pub returns-then-not-may_gain-clause-complete : goal.returns-then-not-may_gain-clause-complete
returns-then-not-may_gain-clause-complete c = λ b low still not_gained t has.
    never_again c.args.self.now c.args.by_owner (c.may_gain.ensures c.if-not-may_gain.true) t b

pub returns-then-is_empty-clause-complete : goal.returns-then-is_empty-clause-complete
returns-then-is_empty-clause-complete c = λ b low still not_gained.
    refused_without_base c.args.self.now c.requires (c.is_empty.ensures c.if-is_empty.true) c.args.by_owner b not_gained
    (c.in_ok-is_met.ensures.none c.if-not-is_met.true b low still not_gained)

pub returns-clause-complete : goal.returns-clause-complete
returns-clause-complete c = λ b low still not_gained t has. record {
  owner_second = c.in_ok-is_met.ensures.complete b low (c.in_ok-list_fails_again.ensures.less b still) not_gained t has;
  list_second = c.in_ok-list_fails_again.ensures.list b low still not_gained t has;
  both_second = c.in_ok-list_fails_again.ensures.both b low still not_gained t has;
}
