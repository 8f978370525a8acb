-- Who has none of the SIDs is granted nothing.
use Rattle.std.proofs.Common.{subst}
use Rattle.std.proofs.lemmas.Result.{IfOk-weaker}
use Rattle.sd_people.specs.Passed.{IsFit}
use Rattle.sd_people.proofs.Fit.{none_found, passed_over}
use Rattle.sd_people.proofs.people.Asker.member_asked.Goals as goal

pub returns-in-Some-clause-passed : goal.returns-in-Some-clause-passed
returns-in-Some-clause-passed c = λ rows settings words each user are fit.
    IfOk-weaker c.find.result _ _ (λ found none. none_found found
    (λ has. passed_over rows settings words user c.in-Some.search c.args.own.now are has each (subst (IsFit rows settings words each) c.in-Some.is fit)) none)
    c.find.ensures.none
