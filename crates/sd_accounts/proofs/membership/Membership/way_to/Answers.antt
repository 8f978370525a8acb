use Rattle.std.proofs.Common.{ap, get_or, length, subst, sym, ◌∙◌, ◌<◌, ◌≡◌}
use Rattle.std.specs.List.{Contains}
use Rattle.sd_accounts.specs.Groups.{Belongs}
use Rattle.sd_accounts.specs.Way.{IsWay}
use Rattle.sd_accounts.proofs.Ways.{at_no_place, at_place}
use Rattle.sd_accounts.proofs.membership.Membership.way_to.Goals as goal

pub way_back-requires : goal.way_back-requires
way_back-requires c =
    subst (λ v. c.in-Some.place < length v.groups) c.self.view_is
    (subst (λ l. c.in-Some.place < length l) c.deref.ensures.value (at_place c.deref.result.now c.args.group.now c.in-Some.place (sym c.in-Some.ensures)).0)

pub returns-in_ok-way_back-in-Some-clause-way : goal.returns-in_ok-way_back-in-Some-clause-way
returns-in_ok-way_back-in-Some-clause-way c =
    let group = c.args.group.now in
    let place = c.in-Some.place in
    let same : get_or c.args.self.now.groups place group ≡ group =
    ap (λ l. get_or l place group) (ap (λ v. v.groups) (sym c.self.view_is) ∙ sym c.deref.ensures.value) ∙ (at_place c.deref.result.now group place (sym c.in-Some.ensures)).1 in
    subst (λ one. IsWay c.args.self.now.rows c.args.self.now.starts one c.in_ok-way_back-in-Some.field-0.items) same (c.in_ok-way_back-in-Some.ensures group)

pub returns-in-None-clause-none : goal.returns-in-None-clause-none
returns-in-None-clause-none c =
    subst (λ v. Belongs v.rows v.starts c.args.group.now → ⊥) c.self.view_is
    (λ belongs. at_no_place c.deref.result.now c.args.group.now (sym c.in-None.ensures)
    (subst (λ l. Contains l c.args.group.now) (sym c.deref.ensures.value) ((c.self.invariant.0.each c.args.group.now).1 belongs)))
