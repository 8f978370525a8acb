use Rattle.std.proofs.Common.{ap, get_or, subst, sym, ◌≡◌, ◌∙◌, false, not}
use Rattle.std.specs.List.{list_any}
use Rattle.indexmap.specs.IndexMap.{keys}
use Rattle.sd_accounts.specs.Accounts.{rows_of}
use Rattle.sd_accounts.specs.Index.{sids_at}
use Rattle.sd_accounts.proofs.Searched.{above_all, above_more, kept_above}
use Rattle.sd_accounts.proofs.search.Search.leads_nowhere.Goals as goal

pub loop-start-preserved : goal.loop-start-preserved
loop-start-preserved c =
    let self = c.args.self.now in
    let accounts = self.accounts.now in
    let all = keys accounts.index in
    let rows = rows_of accounts in
    let one = c.start-item.result in
    let numbers = c.groups_in.result.now in
    let closed : list_any (λ n. not (get_or self.nowhere.items n false)) numbers ≡ false =
    subst (λ l. list_any (λ n. not (get_or l n false)) numbers ≡ false) c.deref.ensures.value (sym c.any_open.ensures ∙ c.if-any_open.false) in
    above_more rows self.wanted.keys c.args.starts.now c.loop-start.start-index one c.loop-start-test.true c.start-item.is c.loop-start.invariant
    (kept_above rows self.wanted.keys all self.nowhere.items numbers one self.kept closed (ap (sids_at all) c.groups_in.ensures ∙ accounts.indexed.groups one))

pub returns : goal.returns
returns c = λ same.
    let self = c.args.self.now in
    above_all (rows_of self.accounts.now) self.wanted.keys c.args.starts.now c.loop-start.start-index c.loop-start-test.false c.loop-start.invariant
