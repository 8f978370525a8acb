use Rattle.std.proofs.Common.{subst}
use Rattle.std.specs.List.{Contains}
use Rattle.sd_accounts.proofs.Searched.{all_added, added_sound}
use Rattle.sd_accounts.proofs.Sids.{sid_eq, sid_eq-true}
use Rattle.sd_accounts.proofs.Walked.{one_more}
use Rattle.sd_accounts.proofs.searching.add_all.Goals as goal

pub returns-in_err-insert-clause-sound : goal.returns-in_err-insert-clause-sound
returns-in_err-insert-clause-sound c = λ sid at.
    added_sound c.args.sids.now c.args.set.now.keys c.loop-sid.set.keys c.loop-sid.sid-index c.loop-sid.invariant sid
    (subst (λ keys. Contains keys sid) c.in_err-insert.ensures.err at)

pub loop-sid-preserved : goal.loop-sid-preserved
loop-sid-preserved c =
    one_more sid_eq sid_eq-true c.args.sids.now c.args.set.now.keys c.loop-sid.set.keys c.insert.new.self.keys c.loop-sid.sid-index c.sid-item.result c.sid-item.result c.loop-sid-test.true
    c.sid-item.is c.loop-sid.invariant c.in_ok-insert.ensures.keys

pub returns-clause-sound : goal.returns-clause-sound
returns-clause-sound c = added_sound c.args.sids.now c.args.set.now.keys c.loop-sid.set.keys c.loop-sid.sid-index c.loop-sid.invariant

pub returns-clause-all : goal.returns-clause-all
returns-clause-all c = all_added c.args.sids.now c.args.set.now.keys c.loop-sid.set.keys c.loop-sid.sid-index c.loop-sid-test.false c.loop-sid.invariant
