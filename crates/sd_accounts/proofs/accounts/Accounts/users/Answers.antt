use Rattle.std.proofs.Common.{List, ℕ, Some, drop, false, sym, ap, true, [], ◌+◌, ◌++◌, ◌≡◌, ◌∙◌, ◌∷◌}
use Rattle.std.specs.Borrow.{Bor}
use Rattle.sd_sid.specs.Sid.{SidValue}
use Rattle.sd_accounts.specs.Accounts.{rows_of}
use Rattle.sd_accounts.specs.Kept.{all_rows}
use Rattle.sd_accounts.specs.Names.{is_disabled}
use Rattle.sd_accounts.proofs.Disabled.{told}
use Rattle.sd_accounts.proofs.Logging.{if_ok, whole, whole_adds, whole_omits}
use Rattle.sd_accounts.proofs.accounts.Accounts.users.Goals as goal
use Rattle.sd_accounts.proofs.accounts.Accounts.users.Goals.{then-not-contains+else-is_err, else-not-contains}

pub loop-row-preserved : goal.loop-row-preserved
loop-row-preserved c =
    let rows = c.deref-row-items.result.now in
    let off = is_disabled (rows_of c.args.self.now) in
    let left = all_rows (drop (c.loop-row.row-index + 1) rows) in
    elim c.if-not-contains.branch [
      | then-not-contains+else-is_err w ↦
          let on : off c.in-Some.sid.now ≡ false = told c.in_ok-disabled.disabled (rows_of c.args.self.now) c.in-Some.sid.now c.contains.result false c.in_ok-disabled.ensures c.contains.ensures w.if-not-contains.true in
          let one : SidValue × Bor (List ℕ) = (c.in-Some.sid.now, c.in-Some.name) in
          ap (λ us. whole off us.items (Some one.0) left) w.users-is
          ∙ ap (λ us. whole off us (Some one.0) left) (if_ok w.push.result w.push.new.self.items (c.loop-row.users.items ++ one ∷ []) c.loop-row.users.items (w.if-is_err.ensures).value w.push.ensures.items)
          ∙ whole_adds off c.loop-row.users.items c.loop-row.last rows c.loop-row.row-index c.row-item.result one c.loop-row-test.true c.row-item.is (sym c.in-Some.ensures) on
          ∙ c.loop-row.invariant
      | else-not-contains w ↦
          let out : off c.in-Some.sid.now ≡ true = told c.in_ok-disabled.disabled (rows_of c.args.self.now) c.in-Some.sid.now c.contains.result true c.in_ok-disabled.ensures c.contains.ensures w.if-not-contains.false in
          ap (λ us. whole off us.items (Some c.in-Some.sid.now) left) w.users-is
          ∙ whole_omits off c.loop-row.users.items c.loop-row.last rows c.loop-row.row-index c.row-item.result (c.in-Some.sid.now, c.in-Some.name.now) c.loop-row-test.true c.row-item.is
          (sym c.in-Some.ensures) out
          ∙ c.loop-row.invariant
    ]
