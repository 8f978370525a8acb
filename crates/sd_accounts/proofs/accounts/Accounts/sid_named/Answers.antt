use Rattle.std.proofs.Common.{Err, ap, subst}
use Rattle.sd_accounts.specs.Found.{IsFound}
use Rattle.sd_accounts.specs.Kept.{all_rows}
use Rattle.sd_accounts.specs.Names.{NamesTwo}
use Rattle.sd_accounts.specs.declared.names.NameError.TheVariants.{Ambiguous}
use Rattle.sd_accounts.proofs.Faults.{passed_on}
use Rattle.sd_accounts.proofs.Found.{found_all, found_more, found_two, none_or, one_or}
use Rattle.sd_accounts.proofs.accounts.Accounts.sid_named.Goals as goal

pub loop-row-preserved : goal.loop-row-preserved
loop-row-preserved c =
    found_more c.args.text.now c.deref-row-items.result.now c.loop-row.row-index c.row-item.result c.loop-row.found c.in_ok-found.found c.loop-row-test.true
    c.row-item.is c.loop-row.invariant c.in_ok-found.ensures.next

pub returns-in_err-found-clause-ambiguous : goal.returns-in_err-found-clause-ambiguous
returns-in_err-found-clause-ambiguous c = λ is.
    let two = c.in_err-found.ensures.ambiguous (ap Err (passed_on c.from_residual.result c.in_err-found.field-0.0 Ambiguous c.from_residual.ensures.1 is)) in
    subst (λ rows. NamesTwo (all_rows rows) c.args.text.now) c.deref-row-items.ensures.value
    (found_two c.args.text.now c.deref-row-items.result.now c.loop-row.row-index c.row-item.result c.loop-row.found c.loop-row-test.true c.row-item.is
    c.loop-row.invariant two)

pub returns-clause-one : goal.returns-clause-one
returns-clause-one c =
    let found = subst (λ rows. IsFound (all_rows rows) c.args.text.now c.loop-row.found) c.deref-row-items.ensures.value
    (found_all c.args.text.now c.deref-row-items.result.now c.loop-row.row-index c.loop-row.found c.loop-row-test.false c.loop-row.invariant) in
    one_or c.args.text.now (all_rows c.args.self.now.rows.items) c.loop-row.found c.ok_or.result found c.ok_or.ensures.value

pub returns-clause-unknown : goal.returns-clause-unknown
returns-clause-unknown c = λ unknown.
    let found = subst (λ rows. IsFound (all_rows rows) c.args.text.now c.loop-row.found) c.deref-row-items.ensures.value
    (found_all c.args.text.now c.deref-row-items.result.now c.loop-row.row-index c.loop-row.found c.loop-row-test.false c.loop-row.invariant) in
    none_or c.args.text.now (all_rows c.args.self.now.rows.items) c.loop-row.found c.ok_or.result found c.ok_or.ensures.value unknown
