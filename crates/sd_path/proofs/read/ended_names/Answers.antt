use Rattle.sd_path.proofs.Cited.{[], ap, arith, map, sym, take_all, ◌++◌, ◌∙◌, ◌∷◌}
use Rattle.sd_path.proofs.PathTexts.{ended-between, zero_for_slash}
use Rattle.sd_path.proofs.read.ended_names.Goals as goal

pub returns : goal.returns
returns c =
    let names = c.args.names.now in
    let whole = take_all c.loop-b.b-index names (let at_end = c.loop-b-test.false in omega arith) in
    c.in_ok-push-2.ensures.items
    ∙ ap (λ bs. bs ++ 0 ∷ []) (c.loop-b.invariant ∙ ap (map zero_for_slash) whole)
    ∙ sym (ended-between names)
