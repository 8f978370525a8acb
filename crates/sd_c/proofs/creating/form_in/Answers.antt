use Rattle.std.proofs.Common.{rules}
use Rattle.sd_c.proofs.Cited.{inr}
use Rattle.sd_c.proofs.creating.form_in.Goals as goal

pub returns-clause-memory : goal.returns-clause-memory
returns-clause-memory c = λ lacking. inr (c.in_ok-held.held, search rules, c.form_of.ensures.memory lacking)
