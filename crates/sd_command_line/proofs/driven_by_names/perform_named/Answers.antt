-- Each line is answered by name.
use Rattle.sd_command_line.proofs.driven_by_names.perform_named.Goals as goal

pub returns-in-Runs-Each-clause-ok : goal.returns-in-Runs-Each-clause-ok
returns-in-Runs-Each-clause-ok g c =
    let field = rw c.in-Runs-Each.is at c.in-Runs-Each.field-0-is in
    rw (c.in-Runs-Each.is, field) c.answer_each_named.ensures.ok
