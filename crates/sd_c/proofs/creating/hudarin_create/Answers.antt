use Rattle.std.proofs.Common.{◌∙◌, ap, sym}
use Rattle.sd_c.proofs.Cited.{Err, subst}
use Rattle.sd_c.proofs.Stopped.{stopped}
use Rattle.sd_c.proofs.creating.hudarin_create.Goals as goal
use Rattle.sd_c.specs.Creating.{AnswersCreate, CreateTakesMemory, form_of, held_read, not_created}

pub returns-in-Err : goal.returns-in-Err
returns-in-Err c =
    let a = c.args in
    let takes = CreateTakesMemory a.parent.now a.creator.now a.defaults.now a.owners.now a.types.now a.container a.flags a.restores a.mapping in
    let form = form_of a.container a.flags a.restores (held_read a.parent.now a.creator.now a.defaults.now a.owners.now a.types.now a.mapping) in
    subst (AnswersCreate takes form a.room.now a.room.now) (sym (c.not_created.ensures ∙ ap not_created c.why_not.ensures))
    (stopped takes form a.room.now c.in-Err.stop c.in-Err.ensures.read (λ same. c.in-Err.ensures.memory (ap Err same)))
