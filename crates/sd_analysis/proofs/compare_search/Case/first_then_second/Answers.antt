use Rattle.std.proofs.Common.{inl, sym, ◌∙◌, arith, eqb-true}
use Rattle.sd_analysis.proofs.Gathered.{gains_of, pairs_gain, pairs_refused, none_found}
use Rattle.sd_analysis.proofs.compare_search.Case.first_then_second.Goals as goal

pub returns-clause-report : goal.returns-clause-report
returns-clause-report c = λ before. c.in_ok-add_pairs.ensures.report (gains_of c.args.self.now) before
    (pairs_gain c.args.self.now c.args.demand c.rest.result c.args.report.now.wanted c.args.report.now.wanted
    c.in_ok-first.first.items c.in_ok-second.second.items c.deref.result.now c.deref-2.result.now
    c.rest.ensures c.deref.ensures.value c.deref-2.ensures.value c.in_ok-first.ensures c.in_ok-second.ensures)

pub returns-clause-less : goal.returns-clause-less
returns-clause-less c = c.in_ok-add_pairs.ensures.less

pub returns-clause-complete : goal.returns-clause-complete
returns-clause-complete c =
    pairs_refused c.args.self.now c.args.demand c.rest.result c.args.report.now.wanted
    c.in_ok-first.first.items c.in_ok-second.second.items c.deref.result.now c.deref-2.result.now c.add_pairs.new.report
    c.rest.ensures c.deref.ensures.value c.deref-2.ensures.value c.in_ok-first.ensures c.in_ok-second.ensures
    c.in_ok-add_pairs.ensures.less c.in_ok-add_pairs.ensures.gone

pub returns-then-is_empty-clause-complete : goal.returns-then-is_empty-clause-complete
returns-then-is_empty-clause-complete c = λ b low still not_gained t has. inl (c.in_ok-first.ensures.complete t b low has still (λ rest. not_gained)
    (none_found c.in_ok-first.first.items b
    (omega (arith, eqb-true _ 0 (sym c.is_empty.ensures ∙ c.if-is_empty.true), c.in_ok-first.first.ok.0))))

pub returns-then-is_empty-clause-none : goal.returns-then-is_empty-clause-none
returns-then-is_empty-clause-none c = λ is b low still not_gained t has. c.in_ok-first.ensures.complete t b low has still (λ rest. not_gained)
    (none_found c.in_ok-first.first.items b
    (omega (arith, eqb-true _ 0 (sym c.is_empty.ensures ∙ c.if-is_empty.true), c.in_ok-first.first.ok.0)))
