use Rattle.std.proofs.Common.{arith, ap, get_or, length, reverse, subst, sym, ◌∙◌, ◌<◌}
use Rattle.sd_sid.specs.Sid.{SidValue}
use Rattle.sd_accounts.specs.Accounts.{rows_of}
use Rattle.sd_accounts.specs.Way.{IsWay}
use Rattle.sd_accounts.proofs.Ways.{Ends, comes_to_start, goes_back}
use Rattle.sd_accounts.proofs.membership.Membership.way_back.Goals as goal

pub back-preserved : goal.back-preserved
back-preserved c =
    let view = c.self.view_is in
    let rows = rows_of c.self.inside.accounts.now in
    let starts = c.self.inside.starts.now in
    let groups = c.self.inside.groups.items in
    let low = subst (λ v. c.back.last < length v.groups) (sym view) c.back.invariant.within in
    let ends = subst (λ v. (d : SidValue) → Ends v.rows v.starts (get_or v.groups c.back.last d) (get_or v.groups c.args.place d) c.back.way.items) (sym view) c.back.invariant.ends in
    let goes = goes_back rows starts groups c.self.inside.before.items c.self.invariant.1 c.args.place c.back.last low c.index.result.now c.index.ensures
    c.index-in-Some.result.now c.index-in-Some.ensures c.back.way.items ends c.in-Some.earlier c.in-Some.is in
    record {
      within = omega (arith, goes.0, c.back.invariant.within);
      ends = subst (λ v. (d : SidValue) → Ends v.rows v.starts (get_or v.groups c.in-Some.earlier d) (get_or v.groups c.args.place d) c.push.new.self.items) view
          (subst (λ l. (d : SidValue) → Ends rows starts (get_or groups c.in-Some.earlier d) (get_or groups c.args.place d) l) (sym c.in_ok-push.ensures.items) goes.1);
    }

pub returns : goal.returns
returns c =
    let view = c.self.view_is in
    let rows = rows_of c.self.inside.accounts.now in
    let starts = c.self.inside.starts.now in
    let groups = c.self.inside.groups.items in
    let low = subst (λ v. c.back.last < length v.groups) (sym view) c.back.invariant.within in
    let ends = subst (λ v. (d : SidValue) → Ends v.rows v.starts (get_or v.groups c.back.last d) (get_or v.groups c.args.place d) c.back.way.items) (sym view) c.back.invariant.ends in
    let way = comes_to_start rows starts groups c.self.inside.before.items c.self.invariant.1 c.args.place c.back.last low c.index.result.now c.index.ensures
    c.index-2.result.now c.index-2.ensures c.back.way.items ends c.in_default.is in
    subst (λ v. (d : SidValue) → IsWay v.rows v.starts (get_or v.groups c.args.place d) c.reverse.new.self.items) view
    (subst (λ l. (d : SidValue) → IsWay rows starts (get_or groups c.args.place d) l) (ap reverse (sym c.in_ok-push-2.ensures.items) ∙ sym c.reverse.ensures.items) way)
