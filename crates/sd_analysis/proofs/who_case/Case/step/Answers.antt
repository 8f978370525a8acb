-- An entry that is passed over applies to nobody.
use Rattle.sd_analysis.proofs.Cited.{granted_by, on_ok_weaker, stands_for, sym, undecided_by, ◌∙◌}
use Rattle.sd_analysis.proofs.Walks.{entry_counts, entry_is_passed, names_not, speaks_of, speaks_of_nobody, waits}
use Rattle.sd_analysis.proofs.who_case.Case.step.Goals as goal
use Rattle.sd_analysis.proofs.who_case.Case.step.Goals.{then-is_inherit_only-via-then-is_inherit_only, then-is_inherit_only-via-else-is_inherit_only+then-not-holds}

pub returns-then-is_inherit_only : goal.returns-then-is_inherit_only
returns-then-is_inherit_only c = λ implied seen is.
    let owner = c.args.self.now.owner.now in let g = c.args.self.now.mapping.now in let e = c.args.entry.now in
    entry_is_passed owner g c.args.place seen e c.args.self.now.base.now implied c.args.walk.now
    (elim c.then-is_inherit_only.branch [
      | then-is_inherit_only-via-then-is_inherit_only w ↦ waits owner g c.args.place e (sym c.is_inherit_only.ensures ∙ w.if-is_inherit_only.true)
      | then-is_inherit_only-via-else-is_inherit_only+then-not-holds w ↦ names_not owner g c.args.place e (rw (← w.map.ensures, ← w.holds.ensures) w.if-not-holds.true)
    ]) is

pub returns-in-None : goal.returns-in-None
returns-in-None c = λ implied seen is.
    let owner = c.args.self.now.owner.now in let g = c.args.self.now.mapping.now in let e = c.args.entry.now in
    entry_is_passed owner g c.args.place seen e c.args.self.now.base.now implied c.args.walk.now (speaks_of_nobody owner g c.args.place e c.in-None.ensures) is

pub returns-in-Some : goal.returns-in-Some
returns-in-Some c =
    let owner = c.args.self.now.owner.now in let g = c.args.self.now.mapping.now in let e = c.args.entry.now in let s = c.in-Some.subject.now in
    on_ok_weaker c.step.result (λ steps implied seen is.
    entry_counts owner g c.args.place seen e c.args.self.now.base.now implied (λ t. stands_for t e.kind s) c.step.new.self
    (speaks_of owner g c.args.place e s (sym c.is_inherit_only.ensures ∙ c.if-is_inherit_only.false) (rw (← c.map.ensures, ← c.holds.ensures) c.if-not-holds.false) c.in-Some.ensures)
    (steps (granted_by implied owner g seen c.args.place) (undecided_by owner g seen c.args.place) is)) c.step.ensures
