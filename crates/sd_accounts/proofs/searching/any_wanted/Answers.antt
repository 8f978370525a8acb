use Rattle.sd_accounts.proofs.Searched.{unwanted_all, unwanted_more}
use Rattle.sd_accounts.proofs.searching.any_wanted.Goals as goal

pub loop-sid-preserved : goal.loop-sid-preserved
loop-sid-preserved c =
    unwanted_more c.args.wanted.now.keys c.args.sids.now c.loop-sid.sid-index c.sid-item.result c.is_wanted.result c.loop-sid-test.true c.sid-item.is c.loop-sid.invariant
    c.is_wanted.ensures.wanted c.is_wanted.ensures.known c.if-is_wanted.false

pub returns-clause-none : goal.returns-clause-none
returns-clause-none c = λ same. unwanted_all c.args.wanted.now.keys c.args.sids.now c.loop-sid.sid-index c.loop-sid-test.false c.loop-sid.invariant
