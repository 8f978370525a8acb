-- What changes is said of the two answers.
use Rattle.std.proofs.lemmas.Result.{IfOk-weaker}
use Rattle.sd_commands.specs.Answer.{answer_of}
use Rattle.sd_people.proofs.people.Asker.changed.Goals as goal

pub returns : goal.returns
returns c =
    IfOk-weaker c.change_of.result _ _ (λ people says. (answer_of c.in_ok-old.old, answer_of c.in_ok-new.new, c.in_ok-old.ensures, c.in_ok-new.ensures, says))
    c.change_of.ensures
