-- One descendant more has its accesses.
use Rattle.sd_analysis.proofs.Cited.{All, All-append, DescendantAccess, IsDescendantAccess, Object, [], ap, map, subst, sym, ◌∙◌, ◌∷◌}
use Rattle.sd_analysis.proofs.Each.{each_more, just}
use Rattle.sd_analysis.proofs.descendants_who.who_descendants.Goals as goal

pub loop-descendant-preserved : goal.loop-descendant-preserved
loop-descendant-preserved c =
    let P = IsDescendantAccess c.args.mapping.now c.args.base.now c.args.entries.now c.args.rights in
    let f = λ (d : DescendantAccess). d.descendant in
    let xs = c.loop-descendant.all.items in
    let x = c.in_ok-access_of.field-0 in
    record {
      each = ap (map f) c.in_ok-push.ensures.items ∙ each_more f xs x c.descendants_of-descendants.result.now
          c.loop-descendant.descendant-index Object c.loop-descendant-test.true c.in_ok-access_of.ensures.descendant c.loop-descendant.invariant.each;
      right = subst (All P) (sym c.in_ok-push.ensures.items) (All-append P xs (x ∷ []) c.loop-descendant.invariant.right (just P x c.in_ok-access_of.ensures.access));
    }
