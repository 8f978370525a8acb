use Rattle.std.proofs.lemmas.Bool.{eqb-true}
use Rattle.std.proofs.Common.{get_or, nat_eq, refl}
use Rattle.sd_accounts.proofs.Direct.{nothing_in}
use Rattle.sd_accounts.proofs.Walked.{all_more, one_more, unchanged}
use Rattle.sd_accounts.proofs.groups.add_all.Goals as goal

pub loop-number-init : goal.loop-number-init
loop-number-init c = unchanged _ _ nothing_in

pub loop-number-preserved : goal.loop-number-preserved
loop-number-preserved c =
    one_more nat_eq eqb-true c.args.numbers.now c.args.found.now c.loop-number.found c.insert.new.self c.loop-number.number-index 0
    (get_or c.args.numbers.now c.loop-number.number-index 0) c.loop-number-test.true refl c.loop-number.invariant c.in_ok-insert.ensures

pub returns : goal.returns
returns c = all_more c.args.numbers.now c.args.found.now c.loop-number.found c.loop-number.number-index c.loop-number-test.false c.loop-number.invariant
