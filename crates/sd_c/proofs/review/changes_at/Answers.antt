use Rattle.sd_c.proofs.Cited.{AreChangesAt, AreChangesOf, IfOk-weaker, IsOfBoth, Some, descriptor_at, is_container, kind_at, subst, trees_of}
use Rattle.sd_c.proofs.review.changes_at.Goals as goal

pub returns-in-Some : goal.returns-in-Some
returns-in-Some c =
    let ts = trees_of c.args.review.now in
    let before = c.args.before.now in
    let path = c.args.path.now in
    let x = descriptor_at ts.mapping ts.old before in
    let y = descriptor_at ts.mapping ts.new path in
    let compared = Some c.in-Some.compared in
    let of = subst (IsOfBoth ts.mapping (is_container (kind_at ts.new path)) x y) c.in-Some.is c.in_ok-compare.ensures.compared in
    IfOk-weaker c.changes_of.result (AreChangesOf compared) (AreChangesAt ts before path) (λ changes are. (compared, of, are)) c.changes_of.ensures
