-- One SID more.
use Rattle.sd_sid.specs.SidBytes.{bytes_of_sid}
use Rattle.sd_c.proofs.Joined.{one_more}
use Rattle.sd_c.proofs.accounts.joined.Goals as goal

pub loop-sid-preserved : goal.loop-sid-preserved
loop-sid-preserved c =
    one_more bytes_of_sid c.args.sids.now c.loop-sid.sid-index c.sid-item.result c.loop-sid.bytes.items c.push_sid.new.bytes.items c.loop-sid-test.true
    c.sid-item.is c.loop-sid.invariant c.in_ok-push_sid.ensures.ok
