use Rattle.sd_text.proofs.Cited.{arith, codes, err_from_is_err_and, length, length-take-le, refl, rules, sub, sym, take, take-set_at, ◌+◌, ◌<◌, ◌≡◌}
use Rattle.sd_text.proofs.Loops.{item_more, item_takes}
use Rattle.sd_text.proofs.Sids.{subs_end, subs_fault, at_least_one}
use Rattle.sd_text.proofs.cursor.Cursor.subs_of.Goals as goal

pub returns-in_err-subs : goal.returns-in_err-subs
returns-in_err-subs c =
    let p = err_from_is_err_and c.from_residual.result c.from_residual.ensures.1 in
    let counted : length (take c.subs.count c.subs.subs) ≡ c.subs.count = length-take-le c.subs.count c.subs.subs (omega arith) in
    rw (p.1, p.2) (subs_fault c.args.authority (sym c.if-not-begins.ensures.value) c.subs.invariant.reached (sym c.subs-test.ensures.stood)
    (rw (counted, sym c.subs-test.ensures.rest) c.in_err-subs.ensures.sub))

pub subs-smaller : goal.subs-smaller
subs-smaller c = item_takes (codes "-") (sub c.subs.count) c.subs.self.rest.now c.in_ok-subs.field-0 c.sub.new.self.rest.now (sym c.subs-test.ensures.stood) (rw (sym c.subs-test.ensures.rest) c.in_ok-subs.ensures.sub)

pub subs-preserved : goal.subs-preserved
subs-preserved c =
    let few : c.subs.count < 15 = c.in_ok-subs.ensures.few in
    let counted : length (take c.subs.count c.subs.subs) ≡ c.subs.count = length-take-le c.subs.count c.subs.subs (omega arith) in
    record {
      reached = rw (take-set_at c.subs.subs c.subs.count (c.subs.count + 1) c.in_ok-subs.field-0 refl (omega arith))
          (item_more c.subs.invariant.reached (sym c.subs-test.ensures.stood)
          (rw (counted, sym c.subs-test.ensures.rest) c.in_ok-subs.ensures.sub));
      room = search (rules, arith);
      few = omega arith;
      some = λ none. absurd (omega arith);
    }

pub sid_of_front-requires-clause-some : goal.sid_of_front-requires-clause-some
sid_of_front-requires-clause-some c = at_least_one c.subs.count c.subs.self.rest.now c.subs.invariant.some (sym c.subs-test.ensures.stood)

pub returns : goal.returns
returns c =
    rw (c.sid_of_front.ensures, c.subs-test.ensures.rest)
    (subs_end c.args.authority (sym c.if-not-begins.ensures.value) c.subs.invariant.reached (sym c.subs-test.ensures.stood))
