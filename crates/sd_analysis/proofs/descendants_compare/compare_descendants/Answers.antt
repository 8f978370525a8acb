-- One descendant more has its change.
use Rattle.sd_analysis.proofs.Cited.{All, All-append, DescendantChange, IsDescendantChange, Object, [], ap, map, subst, sym, ◌∙◌, ◌∷◌}
use Rattle.sd_analysis.proofs.Each.{each_more, just}
use Rattle.sd_analysis.proofs.descendants_compare.compare_descendants.Goals as goal

pub loop-descendant-preserved : goal.loop-descendant-preserved
loop-descendant-preserved c =
    let P = IsDescendantChange c.args.mapping.now c.args.base.now c.args.old.now c.args.new.now in
    let f = λ (d : DescendantChange). d.descendant in
    let xs = c.loop-descendant.changes.items in
    let x = c.in_ok-change_of.field-0 in
    record {
      each = ap (map f) c.in_ok-push.ensures.items ∙ each_more f xs x c.descendants_of-descendants.result.now
          c.loop-descendant.descendant-index Object c.loop-descendant-test.true c.in_ok-change_of.ensures.descendant c.loop-descendant.invariant.each;
      right = subst (All P) (sym c.in_ok-push.ensures.items) (All-append P xs (x ∷ []) c.loop-descendant.invariant.right (just P x c.in_ok-change_of.ensures.change));
    }
