-- Where there is a reading it is of these, and there are no words.
use Rattle.std.proofs.lemmas.Result.{IfOk-weaker}
use Rattle.sd_people.proofs.Ready.{ready_read}
use Rattle.sd_people.proofs.people.Asker.why.Goals as goal

pub returns-in-Some : goal.returns-in-Some
returns-in-Some c =
    let asker = c.args.self.now in
    let is = ready_read asker.settings.now asker.words.now c.args.text.now c.args.mask.now c.args.reading.now c.in-Some.reading c.in-Some.is c.requires.ready in
    IfOk-weaker c.why_read.result _ _ (λ answer says. says c.args.text.now c.args.mask.now is.0 is.1) c.why_read.ensures
