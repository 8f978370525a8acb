use Rattle.sd_script.proofs.Cited.{entries, gone_lines, trees_of}
use Rattle.sd_script.proofs.Dumping.{none_left, none_past, piece_more}
use Rattle.sd_script.proofs.review.ReviewLines.gone.Goals as goal

pub unreachable-requires : goal.unreachable-requires
unreachable-requires c = none_past _ _ _ c.node_count-index-end.ensures c.loop-index-test.true c.in_default.ensures

pub loop-index-preserved : goal.loop-index-preserved
loop-index-preserved c =
    let ts = trees_of c.args.self.now.review in
    piece_more (gone_lines c.args.self.now.paths ts c.args.top.now) (entries ts.old) c.loop-index.index _ c.loop-index.lines.items _ _ _ c.in-Some.ensures
    c.in_ok-gone.ensures c.in_ok-append.ensures.items c.loop-index.invariant

pub returns : goal.returns
returns c =
    let ts = trees_of c.args.self.now.review in
    none_left (gone_lines c.args.self.now.paths ts c.args.top.now) ts.old _ _ _ _ c.node_count-index-end.ensures c.loop-index-test.false c.loop-index.invariant
