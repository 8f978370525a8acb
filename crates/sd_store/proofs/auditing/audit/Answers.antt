use Rattle.std.proofs.Common.{length, Some, ap, ◌∙◌, sym, refl, arith}
use Rattle.sd_store.proofs.Dealing.{have_grown, gate_failed, are_answers, lift_ok, nobody}
use Rattle.sd_store.proofs.auditing.audit.Goals as goal

pub returns-in-Some-clause-grown : goal.returns-in-Some-clause-grown
returns-in-Some-clause-grown g c =
    have_grown g.J.StoreId.opening g.G.Gate.always c.args.queries.now c.args.notice.now.journal (length c.inform.new.checkers) c.args.checkers.now c.inform.new.checkers c.spread.new.checkers
    c.inform.ensures.count c.inform.ensures.informed c.spread.ensures.done

pub returns-in-None-clause-grown : goal.returns-in-None-clause-grown
returns-in-None-clause-grown g c =
    have_grown g.J.StoreId.opening g.G.Gate.always c.args.queries.now c.args.notice.now.journal (length c.inform.new.checkers) c.args.checkers.now c.inform.new.checkers c.spread.new.checkers
    c.inform.ensures.count c.inform.ensures.informed c.spread.ensures.done

pub returns-in-Some-clause-gate : goal.returns-in-Some-clause-gate
returns-in-Some-clause-gate g c e =
    let at = c.in-Some.ensures in
    gate_failed g.J.StoreId.opening g.G.Gate.always c.args.queries.now (length c.inform.new.checkers) at.0 _ _ (at.2 nobody ∙ ap (λ x. Some x) e) (c.spread.ensures.done at.0 nobody (omega (arith, at.1, c.spread.ensures.count)))

pub returns-in-None-clause-answers : goal.returns-in-None-clause-answers
returns-in-None-clause-answers g c =
    let n = length c.inform.new.checkers in
    lift_ok c.gathered.result
    (λ answers dealt. are_answers g.J.StoreId.opening g.G.Gate.always c.args.queries.now c.args.notice.now.journal n c.args.checkers.now c.inform.new.checkers c.spread.new.checkers answers.items
    (omega (arith, c.requires.some, c.inform.ensures.count)) (sym c.inform.ensures.count) refl c.spread.ensures.count
    c.inform.ensures.informed c.spread.ensures.done
    (λ i d within. c.in-None.ensures i d (omega (arith, within, c.spread.ensures.count))) dealt)
    c.gathered.ensures.dealt
