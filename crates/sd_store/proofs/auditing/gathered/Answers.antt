use Rattle.sd_store.proofs.Cited.{Answer, IsDealt, List, Sight, ap, arith, length, mod-lt, slice_index_or, subst, sym, ◌%◌, ◌*◌, ◌+◌, ◌/◌, ◌<◌, ◌∙◌, ◌≡◌, ◌≤◌}
use Rattle.sd_store.proofs.Dealing.{any_default, dealt_push, drawn_within}
use Rattle.sd_store.proofs.auditing.gathered.Goals as goal

pub loop-place-preserved : goal.loop-place-preserved
loop-place-preserved g c =
    let checkers = c.args.checkers.now in
    let place = c.loop-place.place in
    let worker = c.index-checkers-worker.result in
    let here : place % length checkers < length checkers = mod-lt place c.requires.some in
    let there : (e : Sight) → slice_index_or checkers (place % length checkers) e ≡ worker = λ e. any_default checkers _ e worker here ∙ sym c.index-checkers-worker.is in
    let enough : c.args.count ≤ place % length checkers + length worker.drawn * length checkers = subst (λ (w : Sight). c.args.count ≤ place % length checkers + length w.drawn * length checkers) (there worker) (c.requires.enough _ worker here) in
    let within : place / length checkers < length worker.drawn = drawn_within place (length checkers) (length worker.drawn) c.args.count c.loop-place-test.true enough in
    let given : c.index-drawn-place.result ≡ slice_index_or worker.drawn (place / length checkers) c.index-drawn-place.result =
    c.index-drawn-place.is ∙ ap (λ (xs : List Answer). slice_index_or xs (place / length checkers) c.index-drawn-place.result) c.drawn.ensures in (
      omega (arith, c.push_reserved.ensures.len, c.loop-place.invariant.0),
      omega (arith, c.push_reserved.ensures.capacity, c.loop-place.invariant.1),
      subst (IsDealt checkers) (sym c.push_reserved.ensures.items)
          (dealt_push checkers c.loop-place.answers.items place worker c.index-drawn-place.result (omega (arith, c.loop-place.invariant.0)) there within given c.loop-place.invariant.2),
    )
