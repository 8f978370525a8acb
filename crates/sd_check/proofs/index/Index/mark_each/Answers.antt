use Rattle.std.proofs.Common.{ap, sym, ◌∙◌, List}
use Rattle.sd_check.proofs.Cited.{SidValue, IsMarked, list_any, place_of, same_sid, same_sid-true, take_all}
use Rattle.sd_check.proofs.Chains.{one_of_more}
use Rattle.sd_check.proofs.index.Index.mark_each.Goals as goal

pub sids-preserved : goal.sids-preserved
sids-preserved c = (
  (λ groups index. c.mark.ensures.kept.0 groups (c.sids.invariant.0.0 groups index), λ s held. c.mark.ensures.kept.1 s (c.sids.invariant.0.1 s held)),
  λ s. one_of_more (IsMarked c.mark.new.self.heads c.mark.new.self.nexts s) (λ one. same_sid one s) c.args.sids.now c.sids.sid-index c.sid-item.result c.sids-test.true c.sid-item.is
      (λ held. c.mark.ensures.kept.1 s (c.sids.invariant.1 s held)) (λ same. c.mark.ensures.here s (c.place_of.ensures.place ∙ ap place_of (same_sid-true _ s same))),
)

pub returns-clause-here : goal.returns-clause-here
returns-clause-here c = λ s one.
    c.sids.invariant.1 s (ap (λ (sids : List SidValue). list_any (λ one. same_sid one s) sids) (take_all c.sids.sid-index c.args.sids.now c.sids-test.false) ∙ one)
