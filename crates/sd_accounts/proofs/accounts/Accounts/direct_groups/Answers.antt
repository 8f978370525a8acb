use Rattle.std.proofs.Common.{ap, subst, sym, ◌∙◌}
use Rattle.indexmap.specs.IndexMap.{keys}
use Rattle.sd_accounts.specs.Accounts.{rows_of}
use Rattle.sd_accounts.specs.Index.{AreWithin, sids_at}
use Rattle.sd_accounts.proofs.Walked.{adds_groups, none_started, start_more, starts_done, still_within}
use Rattle.sd_accounts.proofs.accounts.Accounts.direct_groups.Goals as goal

pub loop-start-init : goal.loop-start-init
loop-start-init c = none_started (rows_of c.args.self.now) c.args.starts.now (keys c.args.self.now.index) c.in_ok-found.found c.in_ok-found.ensures

pub loop-start-preserved : goal.loop-start-preserved
loop-start-preserved c =
    let self = c.args.self.now in
    let numbers = c.groups_in.result.now in
    let old = c.loop-start.found in
    let new = c.add_all.new.found in
    let are = ap (sids_at (keys self.index)) c.groups_in.ensures ∙ self.indexed.groups c.start-item.result in (
      start_more (rows_of self) c.args.starts.now _ (sids_at (keys self.index) old) (sids_at (keys self.index) new) c.loop-start.start-index c.start-item.result c.loop-start-test.true
          c.start-item.is c.loop-start.invariant.0 (adds_groups (rows_of self) (keys self.index) c.start-item.result numbers old new are c.in_ok-add_all.ensures),
      still_within (keys self.index) numbers old new c.loop-start.invariant.1
          (subst (AreWithin (keys self.index)) (sym c.groups_in.ensures) (self.indexed.sound.within c.start-item.result)) c.in_ok-add_all.ensures,
    )

pub returns-clause-starts : goal.returns-clause-starts
returns-clause-starts c =
    starts_done (rows_of c.args.self.now) c.args.starts.now (sids_at (keys c.args.self.now.index) c.loop-start.found) c.loop-start.start-index c.loop-start-test.false c.loop-start.invariant.0
