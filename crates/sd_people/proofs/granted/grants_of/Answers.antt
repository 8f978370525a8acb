-- One line more.
use Rattle.std.proofs.Common.{sym, ◌∙◌}
use Rattle.sd_people.specs.Way.{nothing}
use Rattle.sd_people.proofs.Grants.{one_granted, one_other}
use Rattle.sd_people.proofs.granted.grants_of.Goals as goal

pub loop-line-init : goal.loop-line-init
loop-line-init c = rw c.new-told.ensures.items nothing

pub loop-line-preserved-in_ok-push : goal.loop-line-preserved-in_ok-push
loop-line-preserved-in_ok-push c =
    one_granted c.args.member.now.rows c.args.member.now.starts (c.args.user.now, c.args.name.now) c.loop-line.yielded c.loop-line.told.items c.in-Some.line c.loop-line.invariant
    c.in_ok-line.line c.in_ok-person.field-0 c.push-then-is_of.new.self.items (sym c.is_of.ensures ∙ c.if-is_of.true) c.in_ok-line.ensures c.in_ok-person.ensures
    c.in_ok-push.ensures.items

pub loop-line-preserved : goal.loop-line-preserved
loop-line-preserved c =
    one_other c.args.member.now.rows c.args.member.now.starts (c.args.user.now, c.args.name.now) c.loop-line.yielded c.loop-line.told.items c.in-Some.line c.loop-line.invariant
    (sym c.is_of.ensures ∙ c.if-is_of.false)
