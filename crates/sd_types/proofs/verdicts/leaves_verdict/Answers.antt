use Rattle.std.proofs.Common.{◌&&◌, map, ap, sym, ◌∙◌}
use Rattle.std.proofs.lemmas.Bool.{and_from}
use Rattle.std.proofs.lemmas.Result.{err_from_is_err_and}
use Rattle.sd_types.proofs.Steps.{and_right_false, leaf_error, one_leaf, other_node}
use Rattle.sd_types.specs.Tree.{is_leaf, is_under}
use Rattle.sd_types.specs.Verdicts.{part_verdict}
use Rattle.sd_types.proofs.verdicts.leaves_verdict.Goals as goal
use Rattle.sd_types.proofs.verdicts.leaves_verdict.Goals.{then-is_under+then-is_leaf+in_ok-part_verdict, else-is_under, else-is_under-via-then-is_under+else-is_leaf, else-is_under-via-else-is_under}

pub returns-in_err-part_verdict : goal.returns-in_err-part_verdict
returns-in_err-part_verdict c =
    let tree = map (λ other. other.items) c.args.chains.now in
    let error = err_from_is_err_and c.from_residual.result c.from_residual.ensures.1 in
    rw (error.1, error.2) (leaf_error (λ other. other.items) (part_verdict c.args.question.now c.args.descriptor.now) c.args.chains.now
    c.loop-leaf.leaf-index c.leaf-item.result c.loop-leaf-test.true (sym c.leaf-item.is) (λ n. is_under c.args.chain.now n && is_leaf tree n)
    _ c.loop-leaf.verdict c.loop-leaf.invariant c.deref-then-is_leaf.result.now c.deref-then-is_leaf.ensures.value
    (and_from _ _
    (sym (c.is_under.ensures ∙ ap (is_under c.args.chain.now) c.deref.ensures.value) ∙ c.if-is_under.true)
    (sym (c.is_leaf.ensures ∙ ap (is_leaf tree) c.deref-then-is_under.ensures.value) ∙ c.if-is_leaf.true))
    c.in_err-part_verdict.field-0.0 c.in_err-part_verdict.ensures)

pub loop-leaf-preserved : goal.loop-leaf-preserved
loop-leaf-preserved c =
    let tree = map (λ other. other.items) c.args.chains.now in
    let under = sym (c.is_under.ensures ∙ ap (is_under c.args.chain.now) c.deref.ensures.value) in
    elim c.if-is_under.branch [
      | then-is_under+then-is_leaf+in_ok-part_verdict w ↦
          one_leaf (λ other. other.items) (part_verdict c.args.question.now c.args.descriptor.now) c.args.chains.now
          c.loop-leaf.leaf-index c.leaf-item.result c.loop-leaf-test.true (sym c.leaf-item.is) (λ n. is_under c.args.chain.now n && is_leaf tree n)
          _ c.loop-leaf.verdict c.loop-leaf.invariant w.deref-then-is_leaf.result.now w.deref-then-is_leaf.ensures.value
          (and_from _ _ (under ∙ w.if-is_under.true)
          (sym (w.is_leaf.ensures ∙ ap (is_leaf tree) w.deref-then-is_under.ensures.value) ∙ w.if-is_leaf.true))
          w.in_ok-part_verdict.field-0 c.if-is_under.verdict w.in_ok-part_verdict.ensures (w.verdict-is ∙ w.both-verdict.ensures)
      | else-is_under w ↦
          other_node (λ other. other.items) (part_verdict c.args.question.now c.args.descriptor.now) c.args.chains.now
          c.loop-leaf.leaf-index c.leaf-item.result c.loop-leaf-test.true (sym c.leaf-item.is) (λ n. is_under c.args.chain.now n && is_leaf tree n)
          _ c.loop-leaf.verdict c.loop-leaf.invariant c.if-is_under.verdict
          (elim w.else-is_under.branch [
            | else-is_under-via-then-is_under+else-is_leaf w' ↦
                and_right_false _ _ (sym (w'.is_leaf.ensures ∙ ap (is_leaf tree) w'.deref-then-is_under.ensures.value) ∙ w'.if-is_leaf.false)
            | else-is_under-via-else-is_under w' ↦
                ap (λ b. b && is_leaf tree c.leaf-item.result.items) (under ∙ w'.if-is_under.false)
          ])
          w.verdict-is
    ]
