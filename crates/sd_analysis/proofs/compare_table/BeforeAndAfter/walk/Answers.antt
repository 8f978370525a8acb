use Rattle.std.proofs.Common.{◌∙◌, arith}
use Rattle.sd_analysis.proofs.Tables.{shares_are}
use Rattle.sd_analysis.proofs.compare_table.BeforeAndAfter.walk.Goals as goal

pub returns : goal.returns
returns c = λ g base sids one other other_sid rows other_rows is room other_room. record {
  before = shares_are g base sids one c.args.old.now c.args.walk_pass other_sid c.walk.new.self rows is (c.walk.ensures.room ∙ room)
      (λ place low. c.walk.ensures.points place (omega (arith, low, room)));
  after = shares_are g base sids other c.args.new.now c.args.walk_pass other_sid c.walk-2.new.self other_rows is (c.walk-2.ensures.room ∙ other_room)
      (λ place low. c.walk-2.ensures.points place (omega (arith, low, other_room)));
}
