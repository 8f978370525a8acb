use Rattle.sd_store.proofs.Cited.{IsInformed, Sight, arith, length, length-set, slice_index_or, subst, sym, ◌<◌, ◌∙◌, ◌≡◌}
use Rattle.sd_store.proofs.Dealing.{any_default, informed_set, rest_stays}
use Rattle.sd_store.proofs.auditing.inform.Goals as goal

pub loop-checker-preserved : goal.loop-checker-preserved
loop-checker-preserved g c =
    let olds = c.args.checkers.now in
    let news = c.loop-checker.checker-items in
    let at = c.loop-checker.checker-index in
    let told = c.learn.new.notice.journal in
    let kept = c.loop-checker.invariant in
    let within : at < length news = omega (arith, c.loop-checker-test.true, kept.0) in
    let item = slice_index_or news at c.checker-item.result in
    let was : (d : Sight) → slice_index_or olds at d ≡ item = λ d. sym (kept.3 at d (omega arith)) ∙ any_default news at d c.checker-item.result within in
    let here : IsInformed told item c.learn.new.self = rw (c.learn.ensures.notice) (record { floor = c.learn.ensures.floor; own = c.learn.ensures.extends.0; told = c.learn.ensures.extends.1 }) in (
      length-set news at c.learn.new.self ∙ kept.0,
      c.learn.ensures.notice ∙ kept.1,
      informed_set told olds news at c.learn.new.self within
          (λ i d less. rw (c.learn.ensures.notice) (kept.2 i d less))
          (λ d. subst (λ (x : Sight). IsInformed told x c.learn.new.self) (sym (was d)) here),
      rest_stays olds news at c.learn.new.self kept.3,
    )

pub returns-clause-informed : goal.returns-clause-informed
returns-clause-informed g c i d within =
    let kept = c.loop-checker.invariant in
    rw (← kept.1) (kept.2 i d (omega (arith, c.loop-checker-test.false, kept.0, within)))
