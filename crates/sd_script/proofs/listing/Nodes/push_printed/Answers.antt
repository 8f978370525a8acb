use Rattle.sd_script.proofs.Cited.{ap, entries, printed, replay, ◌++◌, ◌∙◌}
use Rattle.sd_line.specs.Printed.{tag_of}
use Rattle.sd_script.specs.Listing.{lines_below}
use Rattle.sd_script.proofs.Dumping.{none_left, none_past, piece_more}
use Rattle.sd_script.proofs.Printing.{printed_pieces}
use Rattle.sd_script.proofs.listing.Nodes.push_printed.Goals as goal

pub unreachable-requires : goal.unreachable-requires
unreachable-requires c = none_past _ _ _ c.node_count-index-end.ensures c.loop-index-test.true c.in_default.ensures

pub loop-index-preserved : goal.loop-index-preserved
loop-index-preserved c =
    let t = replay c.args.self.now.tree.opening c.args.self.now.tree.journal in
    let below = lines_below c.args.self.now.paths c.args.self.now.tree.opening.mapping t c.args.self.now.top c.args.self.now.which in
    let print = printed c.args.style (tag_of c.args.tag) in
    piece_more (λ node. print (below node)) (entries t) c.loop-index.index _ c.loop-index.out.items _ _ _ (rw (c.get-tree.ensures) at c.in-Some.ensures)
    (ap print (c.deref.ensures.value ∙ c.in_ok-lines.ensures)) c.in_ok-push_printed.ensures c.loop-index.invariant

pub returns : goal.returns
returns c =
    let t = replay c.args.self.now.tree.opening c.args.self.now.tree.journal in
    let below = lines_below c.args.self.now.paths c.args.self.now.tree.opening.mapping t c.args.self.now.top c.args.self.now.which in
    let print = printed c.args.style (tag_of c.args.tag) in
    none_left (λ node. print (below node)) t _ _ _ _ (rw (c.get-tree.ensures) at c.node_count-index-end.ensures) c.loop-index-test.false c.loop-index.invariant
    ∙ ap (λ text. c.args.out.now.items ++ text) (printed_pieces c.args.style _ below (entries t))
