use Rattle.std.proofs.Common.{None, ap, sym, ◌∙◌}
use Rattle.sd_accounts.specs.Kept.{all_rows}
use Rattle.sd_accounts.specs.Names.{first_name}
use Rattle.sd_accounts.proofs.Found.{name_found, name_more}
use Rattle.sd_accounts.proofs.accounts.Accounts.name_of.Goals as goal

pub returns-in-Some : goal.returns-in-Some
returns-in-Some c =
    let rows = c.deref-row-items.result.now in
    sym (name_found rows c.loop-row.row-index c.row-item.result c.args.sid.now c.in-Some.name.now c.loop-row-test.true c.row-item.is c.loop-row.invariant
    (sym c.in-Some.ensures)) ∙ ap (λ r. first_name (all_rows r) c.args.sid.now) c.deref-row-items.ensures.value

pub loop-row-preserved : goal.loop-row-preserved
loop-row-preserved c =
    name_more c.deref-row-items.result.now c.loop-row.row-index c.row-item.result c.args.sid.now None c.loop-row-test.true c.row-item.is c.loop-row.invariant
    (sym c.in_default.ensures)
