-- Each turn passes a unit that isn't zero, or finds the end of the text.
use Rattle.sd_claim.proofs.Cited.{eq-eqb, false, ne_eqb, sym, true, u16_at, ◌==◌, ◌∙◌, ◌≡◌}
use Rattle.sd_claim.proofs.Loop.{next_unit, no_end, text_ends}
use Rattle.sd_claim.proofs.part.read_terminated_len.Goals as goal

pub returns-then-read_u16-eq0-clause-read : goal.returns-then-read_u16-eq0-clause-read
returns-then-read_u16-eq0-clause-read c =
    let ends : (u16_at c.loop-rest.rest.now 0 == 0) ≡ true = eq-eqb _ _ (sym c.read_u16.ensures ∙ c.if-read_u16-eq0.true) in
    text_ends c.args.bytes.now c.loop-rest.rest.now c.loop-rest.len c.loop-rest-test.true ends c.loop-rest.invariant

pub loop-rest-preserved : goal.loop-rest-preserved
loop-rest-preserved c =
    let more : (u16_at c.loop-rest.rest.now 0 == 0) ≡ false = ne_eqb _ _ (λ is. c.if-read_u16-eq0.false (c.read_u16.ensures ∙ is)) in
    next_unit c.args.bytes.now c.loop-rest.rest.now c.loop-rest.len c.loop-rest-test.true more c.loop-rest.invariant

pub returns-clause-read : goal.returns-clause-read
returns-clause-read c = no_end c.args.bytes.now c.loop-rest.rest.now c.loop-rest.len c.loop-rest-test.false c.loop-rest.invariant
