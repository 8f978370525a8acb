use Rattle.sd_analysis.proofs.Cited.{HasEffect, HasNoEffect, inl, inr, refl, subst}
use Rattle.sd_analysis.proofs.redundancy.judge.Goals as goal

pub returns-then-has : goal.returns-then-has
returns-then-has c = inl (record {
  effect = subst (λ es. HasEffect c.args.owner.now es c.args.mapping.now c.args.base.now c.args.place) c.deref.ensures.value (c.in_ok-has.ensures.yes c.if-has.true);
  list = refl;
  marks_stay = refl;
})

pub returns : goal.returns
returns c = inr (record {
  no_effect = subst (λ es. HasNoEffect c.args.owner.now es c.args.mapping.now c.args.base.now c.args.place) c.deref.ensures.value (c.in_ok-has.ensures.no c.if-has.false);
  list = c.remove.ensures.items;
  marked = refl;
})
