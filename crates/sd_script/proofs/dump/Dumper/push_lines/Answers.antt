use Rattle.sd_script.proofs.Cited.{ap, entries, replay}
use Rattle.sd_line.specs.Printed.{printed_line, tag_of}
use Rattle.sd_script.specs.Dump.{making_line}
use Rattle.sd_script.proofs.Dumping.{none_left, none_past, piece_more, stands_there}
use Rattle.sd_script.proofs.Printing.{printed_last}
use Rattle.sd_script.proofs.dump.Dumper.push_lines.Goals as goal

pub unreachable-requires : goal.unreachable-requires
unreachable-requires c = none_past _ _ _ c.node_count-index-end.ensures c.loop-index-test.true c.in_default.ensures

pub making_line-requires : goal.making_line-requires
making_line-requires c = stands_there _ c.loop-index.index _ c.in-Some.ensures

pub loop-index-preserved : goal.loop-index-preserved
loop-index-preserved c =
    let nodes = entries (replay c.args.self.now.tree.now.opening c.args.self.now.tree.now.journal) in
    let print = printed_line c.args.style (tag_of c.args.tag) in
    let line = making_line c.args.self.now.notation.paths c.args.self.now.readers in
    piece_more (λ node. print (line node)) nodes c.loop-index.index _ c.loop-index.out.items _ _ _ c.in-Some.ensures
    (ap print c.in_ok-line.ensures) c.in_ok-push_printed_line.ensures c.loop-index.invariant

pub returns : goal.returns
returns c =
    let t = replay c.args.self.now.tree.now.opening c.args.self.now.tree.now.journal in
    let print = printed_line c.args.style (tag_of c.args.tag) in
    let line = making_line c.args.self.now.notation.paths c.args.self.now.readers in
    printed_last c.args.style _ line (entries t) _ _ _ _ _
    (none_left (λ node. print (line node)) t _ _ _ _ c.node_count-index-end.ensures c.loop-index-test.false c.loop-index.invariant)
    c.in_ok-publish.ensures c.in_ok-push_printed_line-2.ensures
