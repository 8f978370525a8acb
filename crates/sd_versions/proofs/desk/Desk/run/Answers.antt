use Rattle.sd_versions.proofs.Cited.{[], ap, arith, length, sym, take, take_more, ◌++◌, ◌+◌, ◌<◌, ◌∙◌, ◌∷◌, ◌≡◌}
use Rattle.sd_versions.proofs.Lists.{runs_push}
use Rattle.sd_versions.proofs.desk.Desk.run.Goals as goal

pub loop-request-preserved : goal.loop-request-preserved
loop-request-preserved c =
    let requests = c.args.requests.now in
    let i = c.loop-request.request-index in
    let request = c.request-item.result in
    let before = c.loop-request.invariant in
    let within : i < length requests = omega arith in
    let next : take (i + 1) requests ≡ take i requests ++ request ∷ [] =
    take_more requests i request within ∙ ap (λ x. take i requests ++ x ∷ []) (sym c.request-item.is) in (
      omega (arith, c.push_reserved.ensures.len),
      omega (arith, c.push_reserved.ensures.capacity),
      rw (next, c.push_reserved.ensures.items) (runs_push _ _ _ _ _ _ _ before.2 c.step.ensures.step),
    )
