-- One SID more; and all of them.
use Rattle.sd_accounts.specs.Accounts.{rows_of}
use Rattle.sd_people.proofs.Kept.{all_kept, names_right, none_kept, one_more, right_of_none}
use Rattle.sd_people.proofs.names.names_of.Goals as goal

pub loop-sid-init : goal.loop-sid-init
loop-sid-init c = record {
  right = right_of_none (rows_of c.args.accounts.now) c.args.known c.new-map.result c.new-map.ensures.empty;
  kept = none_kept c.new-map.result;
}

pub loop-sid-preserved : goal.loop-sid-preserved
loop-sid-preserved c = record {
  right = c.in_ok-learn.ensures.right c.loop-sid.invariant.right;
  kept = one_more c.loop-sid.map c.learn.new.map c.args.sids.now c.loop-sid.sid-index c.sid-item.result c.loop-sid-test.true c.sid-item.is
      c.loop-sid.invariant.kept c.in_ok-learn.ensures.kept c.in_ok-learn.ensures.others;
}

pub returns : goal.returns
returns c =
    names_right (rows_of c.args.accounts.now) c.args.known c.loop-sid.map c.args.sids.now c.loop-sid.invariant.right
    (all_kept c.loop-sid.map c.args.sids.now c.loop-sid.sid-index c.loop-sid-test.false c.loop-sid.invariant.kept)
