-- The owner of what is made is S-1-3-0.
use Rattle.sd_analysis.proofs.Cited.{DecideAlike, SidValue, Some, arith, subst}
use Rattle.sd_analysis.proofs.effect.inherit_unlike.Goals as goal

pub returns-clause-no : goal.returns-clause-no
returns-clause-no c = λ none. record {
  verdicts = subst (λ (s : SidValue). DecideAlike (Some s) c.args.case.now.mapping.now c.args.case.now.base.now c.args.before.now c.args.after.now)
      c.sid_from_parts.ensures (c.in_ok-unlike.ensures.no none);
  emptiness = grind (arith, c.if-is_empty.false, c.is_empty.ensures, c.is_empty-2.ensures);
}
