use Rattle.sd_analysis.proofs.Cited.{AreBeforeAndAfter, ArePlaced, BeforeAndAfter, Case, GroupState, IsCase, IsPlace, IsTable, List, MappingValue, None, Parts, Pass, SidValue, Some, arith, eqb-true, false≢true, new_of, not-true, old_of, sids_in, sym, ℕ, ◌∙◌}
use Rattle.sd_analysis.proofs.Placed.{among_none, are_placed}
use Rattle.sd_analysis.proofs.Reports.{none_wanted}
use Rattle.sd_analysis.proofs.Searched.{still_left, with_each}
use Rattle.sd_analysis.proofs.compare_search.Case.try_with.Goals as goal

placed : (case : Case) (is : IsCase case) (pass : Pass) (both : BeforeAndAfter) (s : SidValue) (place : ℕ) → IsPlace case s place
    → ((g : MappingValue) (base : List (SidValue × GroupState)) (sids : List SidValue) (old new : Parts) → IsTable g base sids old new case.table
    → AreBeforeAndAfter g base sids old new pass None both)
    → ArePlaced case pass (record { allowed = s; denied = None }) both place
placed case is pass both s place at alone =
    are_placed case pass None both (alone case.mapping.now case.base.now (sids_in case) (old_of case) (new_of case) is.table) s place at

pub worth_trying-worth-requires-clause-placed : goal.worth_trying-worth-requires-clause-placed
worth_trying-worth-requires-clause-placed c = placed c.args.self.now c.requires.case c.args.pass c.alone-both_alone.result.now c.args.allowed.now c.args.place c.requires.place c.alone-both_alone.ensures

pub try_sids-requires : goal.try_sids-requires
try_sids-requires c = placed c.args.self.now c.requires.case c.args.pass c.alone-both_alone.result.now c.args.allowed.now c.args.place c.requires.place c.alone-both_alone.ensures

pub returns-clause-found : goal.returns-clause-found
returns-clause-found c = λ wanted before. c.in_ok-try_pairs.ensures.found wanted (c.in_ok-try_sids.ensures.found wanted before)

pub returns-clause-less : goal.returns-clause-less
returns-clause-less c = λ b h. c.in_ok-try_sids.ensures.less b (c.in_ok-try_pairs.ensures.less b h)

pub returns-clause-gone : goal.returns-clause-gone
returns-clause-gone c =
    with_each c.args.self.now c.args.pass c.args.demand c.args.allowed.now c.try_pairs.new.found.left
    (λ b low h. still_left c.try_sids.new.found c.try_pairs.new.found b c.in_ok-try_pairs.ensures.less (c.in_ok-try_sids.ensures.gone b low h))
    (λ s b low among needed granted sought h. c.in_ok-try_pairs.ensures.gone s b low among h)

pub returns-then-is_empty-clause-gone : goal.returns-then-is_empty-clause-gone
returns-then-is_empty-clause-gone c = λ denied b low among needed granted sought h.
    none_wanted c.worth_trying-worth.result c.args.found.now.left c.common.result b c.common.ensures (sym c.is_empty.ensures ∙ c.if-is_empty.true) low
    (c.worth_trying-worth.ensures denied b low granted sought)

pub returns-then-not-demand-clause-gone : goal.returns-then-not-demand-clause-gone
returns-then-not-demand-clause-gone c =
    with_each c.args.self.now c.args.pass c.args.demand c.args.allowed.now c.try_sids.new.found.left c.in_ok-try_sids.ensures.gone
    (λ s b low among needed granted sought h. absurd (false≢true (sym (not-true _ c.if-not-demand.true) ∙ needed)))

pub returns-then-is_empty-2-clause-gone : goal.returns-then-is_empty-2-clause-gone
returns-then-is_empty-2-clause-gone c =
    with_each c.args.self.now c.args.pass c.args.demand c.args.allowed.now c.try_sids.new.found.left c.in_ok-try_sids.ensures.gone
    (λ s b low among needed granted sought h. absurd (among_none c.args.self.now.denied.items s
    (let none = eqb-true _ 0 (sym c.is_empty-2.ensures ∙ c.if-is_empty-2.true) in omega (arith, none, c.args.self.now.denied.ok.0)) among))

pub returns-then-is_empty-3-clause-gone : goal.returns-then-is_empty-3-clause-gone
returns-then-is_empty-3-clause-gone c =
    with_each c.args.self.now c.args.pass c.args.demand c.args.allowed.now c.try_sids.new.found.left c.in_ok-try_sids.ensures.gone
    (λ s b low among needed granted sought h.
    none_wanted c.worth_trying-worth.result c.try_sids.new.found.left c.common-2.result b c.common-2.ensures (sym c.is_empty-3.ensures ∙ c.if-is_empty-3.true) low
    (c.worth_trying-worth.ensures (Some s) b low granted sought))
