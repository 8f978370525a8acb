use Rattle.std.proofs.Common.{sym, subst, take, ◌+◌}
use Rattle.sd_accounts.specs.Kept.{all_rows}
use Rattle.sd_accounts.specs.Users.{AreDisabled}
use Rattle.sd_accounts.proofs.Disabled.{more_disabled, none_more}
use Rattle.sd_accounts.proofs.accounts.Accounts.disabled_sids.Goals as goal
use Rattle.sd_accounts.proofs.accounts.Accounts.disabled_sids.Goals.{in-Disabled+in_ok-insert, in_default}

pub loop-row-preserved : goal.loop-row-preserved
loop-row-preserved c =
    let rows = c.deref-row-items.result.now in
    let more = all_rows (take (c.loop-row.row-index + 1) rows) in
    elim c.match-row.branch [
      | in-Disabled+in_ok-insert w ↦ subst (λ sids. AreDisabled sids more) (sym w.sids-is)
          (more_disabled c.loop-row.sids w.insert.new.self rows c.loop-row.row-index c.row-item.result w.in-Disabled.user c.loop-row-test.true c.row-item.is
          c.loop-row.invariant w.in-Disabled.is w.in_ok-insert.ensures.updates)
      | in_default w ↦ subst (λ sids. AreDisabled sids more) (sym w.sids-is)
          (none_more c.loop-row.sids rows c.loop-row.row-index c.row-item.result c.loop-row-test.true c.row-item.is c.loop-row.invariant
          w.in_default.not-Disabled)
    ]
