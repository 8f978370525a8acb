use Rattle.sd_c.proofs.Cited.{IsSome, None, Some, ap, entries, err_from_is_err_and, inl, inr, listed, published_at, refl, rules, slice_get, sym, trees_of, ◌∙◌, ◌≡◌}
use Rattle.std.specs.Prelude.{option_map}
use Rattle.sd_c.proofs.Reviewing.{published_place, some_there}
use Rattle.sd_c.proofs.review.review_at.Goals as goal

pub returns-in_ok-made_of-in-Some-node-clause-ok : goal.returns-in_ok-made_of-in-Some-node-clause-ok
returns-in_ok-made_of-in-Some-node-clause-ok c =
    let ts = trees_of c.args.review.now in
    let node = listed c.in-Some-node.node in
    let none : slice_get (entries ts.new) c.args.place ≡ None = search rules in
    let there : published_at ts c.args.place ≡ Some node =
    sym (published_place ts c.args.place _ _ c.node_count.ensures c.saturating_sub-index.ensures) ∙ sym c.node-2.ensures
    ∙ ap (option_map listed) c.in-Some-node.is in
    (c.in_ok-made-in-Some-node.made, inr (node, none, there, c.in_ok-made-in-Some-node.ensures), c.in_ok-made_of-in-Some-node.ensures)

pub returns-in-Some-clause-ok : goal.returns-in-Some-clause-ok
returns-in-Some-clause-ok c = (c.in_ok-made.made, inl (listed c.in-Some.node, search rules, c.in_ok-made.ensures), c.in_ok-made_of.ensures)

pub returns-in_err-made-in-Some-node-clause-err : goal.returns-in_err-made-in-Some-node-clause-err
returns-in_err-made-in-Some-node-clause-err c =
    let ts = trees_of c.args.review.now in
    let there =
    sym (published_place ts c.args.place _ _ c.node_count.ensures c.saturating_sub-index.ensures) ∙ sym c.node-2.ensures
    ∙ ap (option_map listed) c.in-Some-node.is in
    let p = err_from_is_err_and c.from_residual-in_err-made-in-Some-node.result c.from_residual-in_err-made-in-Some-node.ensures.1 in
    rw (p.1, p.2) (inr (inr (some_there (published_at ts c.args.place) (listed c.in-Some-node.node) there), refl))

pub returns-in_err-made_of-in-Some-node-clause-err : goal.returns-in_err-made_of-in-Some-node-clause-err
returns-in_err-made_of-in-Some-node-clause-err c =
    let ts = trees_of c.args.review.now in
    let there =
    sym (published_place ts c.args.place _ _ c.node_count.ensures c.saturating_sub-index.ensures) ∙ sym c.node-2.ensures
    ∙ ap (option_map listed) c.in-Some-node.is in
    let p = err_from_is_err_and c.from_residual-in_err-made_of-in-Some-node.result c.from_residual-in_err-made_of-in-Some-node.ensures.1 in
    rw (p.1, p.2) (inr (inr (some_there (published_at ts c.args.place) (listed c.in-Some-node.node) there), refl))

pub returns-in-None-clause-err : goal.returns-in-None-clause-err
returns-in-None-clause-err c =
    let ts = trees_of c.args.review.now in
    let none : slice_get (entries ts.new) c.args.place ≡ None = search rules in
    inl (
      none,
      sym (published_place ts c.args.place _ _ c.node_count.ensures c.saturating_sub-index.ensures) ∙ sym c.node-2.ensures
          ∙ ap (option_map listed) c.in-None.is,
      refl,
    )
