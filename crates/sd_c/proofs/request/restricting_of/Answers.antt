-- Each turn reads the next SID, or ends with its fault, or where nothing is left.
use Rattle.sd_c.proofs.Cited.{[], err_from_is_err_and, length, rules, sids_read, sym, take_rest, ◌∙◌, ◌≡◌}
use Rattle.std.proofs.Common.{◌++◌, ◌∷◌}
use Rattle.sd_c.proofs.RestrictingLoop.{goes_on, ends, at_the_end}
use Rattle.sd_c.proofs.request.restricting_of.Goals as goal

pub returns-then-is_empty-clause-read : goal.returns-then-is_empty-clause-read
returns-then-is_empty-clause-read c =
    at_the_end c.loop-at.rest.now (length c.args.bytes.now) c.loop-at.at c.loop-at.sids.items (sids_read c.args.bytes.now 0 (length c.args.bytes.now)) c.loop-at-test.true (sym c.is_empty.ensures ∙ c.if-is_empty.true) c.loop-at.invariant

pub returns-in_err-sid-clause-read : goal.returns-in_err-sid-clause-read
returns-in_err-sid-clause-read c =
    let p = err_from_is_err_and c.from_residual-in_err-sid.result c.from_residual-in_err-sid.ensures.1 in
    rw (p.1, p.2) (ends c.loop-at.rest.now (length c.args.bytes.now) c.loop-at.at c.loop-at.sids.items c.in_err-sid.field-0.0 (sids_read c.args.bytes.now 0 (length c.args.bytes.now)) c.loop-at-test.true (sym c.is_empty.ensures ∙ c.if-is_empty.false) (sym c.in_err-sid.ensures.read) c.loop-at.invariant)

pub loop-at-preserved : goal.loop-at-preserved
loop-at-preserved c =
    let so_far = goes_on c.loop-at.rest.now (length c.args.bytes.now) c.loop-at.at c.loop-at.sids.items c.in_ok-sid.sid c.in_ok-sid.size (sids_read c.args.bytes.now 0 (length c.args.bytes.now)) c.loop-at-test.true (sym c.is_empty.ensures ∙ c.if-is_empty.false) (sym c.in_ok-sid.ensures.read) c.loop-at.invariant in
    let pushed : c.push.new.self.items ≡ c.loop-at.sids.items ++ c.in_ok-sid.sid ∷ [] = search rules in
    rw (pushed, take_rest c.loop-at.rest.now c.in_ok-sid.size) so_far
