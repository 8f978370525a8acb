use Rattle.sd_c.proofs.Cited.{Trees, rules, subst}
use Rattle.sd_c.specs.Review.{IsReviewAt}
use Rattle.sd_c.proofs.Reviewing.{same_trees}
use Rattle.sd_c.proofs.review.reviewed.Goals as goal

pub returns-clause-ok : goal.returns-clause-ok
returns-clause-ok c =
    let v = c.in-Store.store.value in
    let made = c.in_ok-made.ensures.ok in
    let same = same_trees c.of-review.result v (search rules) (search rules) (search rules) (search rules) in
    (v, made.0, search rules, subst (λ (ts : Trees). IsReviewAt ts c.args.place made.0) same made.1, made.2)
