use Rattle.std.proofs.Common.{sym, ◌∙◌}
use Rattle.sd_specialize.proofs.Places.{place_none, place_some}
use Rattle.sd_specialize.proofs.marked.mark_place.Goals as goal

pub returns-in-Some : goal.returns-in-Some
returns-in-Some c = place_some c.args.ace.now c.args.marks.now c.in-Some.place (sym c.first_mark.ensures ∙ c.in-Some.is)

pub returns-in-None : goal.returns-in-None
returns-in-None c = place_none c.args.ace.now c.args.marks.now (sym c.first_mark.ensures ∙ c.in-None.is)
