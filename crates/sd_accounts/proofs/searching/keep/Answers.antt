use Rattle.std.proofs.Common.{subst, sym, take, ◌+◌}
use Rattle.indexmap.specs.IndexMap.{keys}
use Rattle.sd_accounts.specs.Wanted.{Keeps}
use Rattle.sd_accounts.proofs.Indexed.{key_found}
use Rattle.sd_accounts.proofs.Searched.{keeps_more, keeps_same}
use Rattle.sd_accounts.proofs.searching.keep.Goals as goal
use Rattle.sd_accounts.proofs.searching.keep.Goals.{in-Some+then-number-len, in-Some+else-number-len, in_default}

pub loop-sid-preserved : goal.loop-sid-preserved
loop-sid-preserved c =
    let all = keys c.args.index.now in
    let sids = c.args.sids.now in
    let old = c.args.nowhere.now.items in
    let i = c.loop-sid.sid-index in
    let one = c.sid-item.result in
    elim c.match-get_index_of.branch [
      | in-Some+then-number-len w ↦
          let found = key_found all one w.in-Some.number (sym w.in-Some.ensures.index) in
          subst (λ v. Keeps all (take (i + 1) sids) old v.items) (sym w.nowhere-is)
          (keeps_more all sids old c.loop-sid.nowhere.items i w.in-Some.number one c.loop-sid-test.true c.sid-item.is found.1 c.loop-sid.invariant)
      | in-Some+else-number-len w ↦
          subst (λ v. Keeps all (take (i + 1) sids) old v.items) (sym w.nowhere-is) (keeps_same all sids old c.loop-sid.nowhere.items i one c.loop-sid-test.true c.loop-sid.invariant)
      | in_default w ↦
          subst (λ v. Keeps all (take (i + 1) sids) old v.items) (sym w.nowhere-is) (keeps_same all sids old c.loop-sid.nowhere.items i one c.loop-sid-test.true c.loop-sid.invariant)
    ]
