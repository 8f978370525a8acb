use Rattle.sd_analysis.proofs.Cited.{get_or_read, inl, inr, sym, ◌∙◌}
use Rattle.sd_analysis.proofs.Placed.{allowed_before, allowed_inside, allowed_place}
use Rattle.sd_analysis.proofs.compare_search.Case.try_at.Goals as goal

pub try_with-requires-clause-place : goal.try_with-requires-clause-place
try_with-requires-clause-place c = allowed_place c.args.self.now c.requires.case c.args.place c.args.allowed.now c.requires.within c.requires.at
    (sym (get_or_read c.args.self.now.table.places.items c.args.place c.index-own.result.now (allowed_inside c.args.self.now c.requires.case c.args.place c.requires.within) c.index-own.ensures 0)
    ∙ c.if-own-place.false)

pub returns-then-own-place-clause-gone : goal.returns-then-own-place-clause-gone
returns-then-own-place-clause-gone c = λ denied b low among needed granted sought h.
    inr (allowed_before c.args.self.now c.requires.case c.args.place c.args.allowed.now c.requires.within c.requires.at
    (λ own. c.if-own-place.true
    (get_or_read c.args.self.now.table.places.items c.args.place c.index-own.result.now (allowed_inside c.args.self.now c.requires.case c.args.place c.requires.within) c.index-own.ensures 0
    ∙ own)))

pub returns-clause-gone : goal.returns-clause-gone
returns-clause-gone c = λ denied b low among needed granted sought h. inl (c.in_ok-try_with.ensures.gone denied b low among needed granted sought h)
