use Rattle.std.proofs.Common.{inr, subst, sym}
use Rattle.indexmap.specs.IndexMap.{keys}
use Rattle.sd_accounts.specs.Accounts.{rows_of}
use Rattle.sd_accounts.specs.Groups.{AreGroupsOf}
use Rattle.sd_accounts.specs.Wanted.{AreUnwanted, LeadNowhere}
use Rattle.sd_accounts.proofs.Searched.{none_by_starts, none_by_walk, nowhere_from, still_nowhere}
use Rattle.sd_accounts.proofs.search.Search.find.Goals as goal

pub returns-then-leads_nowhere-clause-none : goal.returns-then-leads_nowhere-clause-none
returns-then-leads_nowhere-clause-none c =
    let self = c.args.self.now in
    none_by_starts (rows_of self.accounts.now) self.wanted.keys c.args.starts.now (c.any_wanted.ensures.none c.if-any_wanted.false) (c.leads_nowhere.ensures c.if-leads_nowhere.true)

pub invariant_of-self : goal.invariant_of-self
invariant_of-self c =
    let self = c.args.self.now in
    let rows = rows_of self.accounts.now in
    let wanted = self.wanted.keys in
    let starts = c.args.starts.now in
    let groups = c.in_ok-member.member.groups in
    let others = subst (AreUnwanted wanted) c.groups.ensures.groups (c.any_wanted-2.ensures.none c.if-any_wanted-2.false) in
    let are = subst (λ rs. AreGroupsOf rs starts groups) c.in_ok-member.ensures.rows
    (subst (λ ss. AreGroupsOf c.in_ok-member.member.rows ss groups) c.in_ok-member.ensures.starts c.groups.ensures.all) in
    let none = none_by_walk rows wanted starts groups (c.any_wanted.ensures.none c.if-any_wanted.false) are others in
    record {
      kept = still_nowhere rows wanted (keys self.accounts.now.index) c.groups-2.result.now self.nowhere.items c.keep.new.nowhere.items self.kept c.keep.ensures
          (subst (LeadNowhere rows wanted) (sym c.groups-2.ensures.groups) (nowhere_from rows wanted starts groups none (λ sid at. inr ((are.each sid).0 at))));
    }

pub returns-clause-none : goal.returns-clause-none
returns-clause-none c =
    let self = c.args.self.now in
    let wanted = self.wanted.keys in
    let groups = c.in_ok-member.member.groups in
    let others = subst (AreUnwanted wanted) c.groups.ensures.groups (c.any_wanted-2.ensures.none c.if-any_wanted-2.false) in
    let are = subst (λ rs. AreGroupsOf rs c.args.starts.now groups) c.in_ok-member.ensures.rows
    (subst (λ ss. AreGroupsOf c.in_ok-member.member.rows ss groups) c.in_ok-member.ensures.starts c.groups.ensures.all) in
    none_by_walk (rows_of self.accounts.now) wanted c.args.starts.now groups (c.any_wanted.ensures.none c.if-any_wanted.false) are others
