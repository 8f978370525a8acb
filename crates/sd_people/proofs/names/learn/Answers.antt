-- What is kept of one SID more.
use Rattle.std.proofs.Common.{sym, ◌∙◌}
use Rattle.sd_accounts.specs.Accounts.{rows_of}
use Rattle.sd_people.proofs.Kept.{is_kept, put_kept, still_kept, still_right}
use Rattle.sd_people.proofs.names.learn.Goals as goal

pub returns-then-contains_key-clause-kept : goal.returns-then-contains_key-clause-kept
returns-then-contains_key-clause-kept c =
    is_kept c.args.map.now c.args.sid.now (sym c.contains_key.ensures ∙ c.if-contains_key.true)

pub returns-clause-right : goal.returns-clause-right
returns-clause-right c = λ right.
    still_right c.args.map.now c.insert.new.self c.args.sid.now c.in_ok-name.name c.in_ok-insert.ensures.updates
    (rows_of c.args.accounts.now) c.args.known c.in_ok-name.ensures right

pub returns-clause-kept : goal.returns-clause-kept
returns-clause-kept c = put_kept c.args.map.now c.insert.new.self c.args.sid.now c.in_ok-name.name c.in_ok-insert.ensures.updates

pub returns-clause-others : goal.returns-clause-others
returns-clause-others c = still_kept c.args.map.now c.insert.new.self c.args.sid.now c.in_ok-name.name c.in_ok-insert.ensures.updates
