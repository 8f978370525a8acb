-- Each turn reads the next group, or ends with its fault.
use Rattle.sd_c.proofs.Cited.{[], err_from_is_err_and, groups_read, length, rules, sym, take_rest, ◌≡◌}
use Rattle.std.proofs.Common.{◌++◌, ◌∷◌}
use Rattle.sd_c.proofs.Loop.{goes_on, ends}
use Rattle.sd_c.proofs.request.groups_of.Goals as goal

pub returns-in_err-group-clause-read : goal.returns-in_err-group-clause-read
returns-in_err-group-clause-read c =
    let p = err_from_is_err_and c.from_residual-in_err-group.result c.from_residual-in_err-group.ensures.1 in
    rw (p.1, p.2) (ends c.loop-at.rest.now c.args.states.now (length c.args.states.now) c.loop-at.at c.loop-at.groups.items c.in_err-group.field-0.0 (groups_read c.args.bytes.now c.args.states.now 0 (length c.args.states.now)) c.loop-at-test.true (sym c.in_err-group.ensures.read) c.loop-at.invariant)

pub loop-at-preserved : goal.loop-at-preserved
loop-at-preserved c =
    let so_far = goes_on c.loop-at.rest.now c.args.states.now (length c.args.states.now) c.loop-at.at c.loop-at.groups.items c.in_ok-group.group c.in_ok-group.size (groups_read c.args.bytes.now c.args.states.now 0 (length c.args.states.now)) c.loop-at-test.true (sym c.in_ok-group.ensures.read) c.loop-at.invariant in
    let pushed : c.push_reserved.new.self.items ≡ c.loop-at.groups.items ++ c.in_ok-group.group ∷ [] = search rules in
    rw (pushed, take_rest c.loop-at.rest.now c.in_ok-group.size) so_far
