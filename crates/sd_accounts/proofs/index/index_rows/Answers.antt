use Rattle.sd_accounts.proofs.Indexed.{none_indexed, row_added}
use Rattle.sd_accounts.proofs.index.index_rows.Goals as goal

pub loop-row-init : goal.loop-row-init
loop-row-init c = none_indexed c.new-index.result c.new-index.ensures.empty

pub loop-row-preserved : goal.loop-row-preserved
loop-row-preserved c =
    row_added c.loop-row.index c.add_row.new.index c.args.rows.now c.loop-row.row-index c.row-item.result c.loop-row-test.true c.row-item.is c.loop-row.invariant
    c.in_ok-add_row.ensures.sound c.in_ok-add_row.ensures.groups
