use Rattle.sd_script.proofs.Cited.{IsNodeReview, entries, rules, trees_of}
use Rattle.sd_script.proofs.Dumping.{none_past, nothing_left}
use Rattle.sd_script.proofs.Reviewed.{told_all, told_next}
use Rattle.sd_script.proofs.review.ReviewLines.changes.Goals as goal

pub unreachable-requires : goal.unreachable-requires
unreachable-requires c = none_past _ _ _ c.node_count-index-end.ensures c.loop-index-test.true c.in_default.ensures

pub loop-index-preserved : goal.loop-index-preserved
loop-index-preserved c =
    let ts = trees_of c.args.self.now.review in (
      told_next (IsNodeReview c.args.self.now.paths ts c.args.top.now) (entries ts.new) c.loop-index.index _ c.loop-index.lines.items
          _ _ c.loop-index.invariant.0 c.in-Some.ensures c.in_ok-changes.ensures.lines c.in_ok-append.ensures.items,
      search rules,
    )

pub returns : goal.returns
returns c =
    let ts = trees_of c.args.self.now.review in
    told_all (IsNodeReview c.args.self.now.paths ts c.args.top.now) (entries ts.new) c.loop-index.index c.loop-index.lines.items
    c.loop-index.invariant.0 (nothing_left ts.new _ _ c.node_count-index-end.ensures c.loop-index-test.false)
