use Rattle.sd_script.proofs.Cited.{IsOfBoth, Some, descriptor_at, is_container, kind_at, subst, trees_of}
use Rattle.sd_script.proofs.review.ReviewLines.compared.Goals as goal

pub returns-clause-lines : goal.returns-clause-lines
returns-clause-lines c =
    let ts = trees_of c.args.self.now.review in
    let k = is_container (kind_at ts.new c.args.path.now) in
    let x = descriptor_at ts.mapping ts.old c.args.before.now in
    let y = descriptor_at ts.mapping ts.new c.args.path.now in (
      Some c.in-Some.compared,
      subst (IsOfBoth ts.mapping k x y) c.in-Some.is c.in_ok-compare.ensures.compared,
      rw (c.in_ok-changes.ensures, c.as_str.ensures.value, c.in_ok-path.ensures) at c.in_ok-lines.ensures,
    )
