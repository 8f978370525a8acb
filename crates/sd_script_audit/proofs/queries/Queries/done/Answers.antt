use Rattle.sd_script_audit.proofs.Cited.{IfOk-weaker, machine_of, refl, sym}
use Rattle.sd_script_audit.proofs.queries.Queries.done.Goals as goal

pub returns-in-Ok-Importing : goal.returns-in-Ok-Importing
returns-in-Ok-Importing g c =
    let workers = c.args.self.now.workers in
    let new = machine_of g.J.StoreId.opening workers c.edit_reply-reply.new.writer in
    rw (c.in-Ok-Importing.is, c.in-Ok-Importing.field-0-is)
    (IfOk-weaker c.import_answer.result _ _ (λ answer told. ((c.edit_reply-reply.result, new, c.edit_reply-reply.ensures workers, told, refl), refl))
    (c.import_answer.ensures new (sym c.draft.ensures.opening) (sym c.draft.ensures.journal)))

pub returns-in-Ok-Moving : goal.returns-in-Ok-Moving
returns-in-Ok-Moving g c =
    let workers = c.args.self.now.workers in
    let new = machine_of g.J.StoreId.opening workers c.moved.new.writer in
    rw (c.in-Ok-Moving.is, c.in-Ok-Moving.field-0-is)
    (IfOk-weaker c.moved.result _ _ (λ answer told. ((told.0, new, told.1, told.2, refl), refl)) (c.moved.ensures workers))
