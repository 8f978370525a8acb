use Rattle.sd_c.proofs.Cited.{asked_of, ◌∙◌}
use Rattle.sd_c.proofs.Told.{told}
use Rattle.sd_c.proofs.explaining.explained_of.Goals as goal

pub returns-in-Ok : goal.returns-in-Ok
returns-in-Ok c =
    let e = c.in-Ok.ensures.ok in
    told (asked_of c.args.first.now c.args.second.now c.args.mapping) e.0 c.args.asked c.in-Ok.explanation.reasons c.verdict.result
    c.verdict_given.result c.parts_of.result e.1 e.2 (c.verdict.ensures ∙ e.3) c.verdict_given.ensures c.parts_of.ensures
