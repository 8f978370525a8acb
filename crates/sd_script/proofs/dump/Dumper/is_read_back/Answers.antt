use Rattle.sd_script.proofs.Cited.{[], arith, false, len, nat_tests, nil_from_length, replay, true, ◌+◌, ◌≡◌}
use Rattle.sd_script.proofs.Dumping.{all_asked, asks_otherwise, asks_this, nothing_asks}
use Rattle.sd_script.proofs.dump.Dumper.is_read_back.Goals as goal
use Rattle.sd_script.proofs.dump.Dumper.is_read_back.Goals.{else-loop-index-test, then-loop-index-test+else-is_empty+in_ok-is_read_as+else-not-branch+else-index-index-end}

pub returns-then-is_empty : goal.returns-then-is_empty
returns-then-is_empty c =
    let t = replay c.args.self.now.tree.now.opening c.args.self.now.tree.now.journal in
    let none : c.loop-index.rest.now ≡ [] = nil_from_length _ (grind (arith, nat_tests)) in
    c.loop-index.invariant false (rw none (nothing_asks c.args.self.now.notation c.args.self.now.readers t c.loop-index.index (omega arith)))

pub returns-then-not-branch : goal.returns-then-not-branch
returns-then-not-branch c =
    let t = replay c.args.self.now.tree.now.opening c.args.self.now.tree.now.journal in
    let no : c.in_ok-is_read_as.field-0 ≡ false = c.if-not-branch.true in
    c.loop-index.invariant false (asks_otherwise c.args.self.now.notation c.args.self.now.readers t _ _ c.first_line.result.1.now c.loop-index.index _ (omega arith) c.node-node.ensures
    c.first_line.ensures.lines (rw no at c.in_ok-is_read_as.ensures))

pub loop-index-preserved : goal.loop-index-preserved
loop-index-preserved c r more =
    let t = replay c.args.self.now.tree.now.opening c.args.self.now.tree.now.journal in
    let is_asked : c.in_ok-is_read_as.field-0 ≡ true = c.if-not-branch.false in
    c.loop-index.invariant r (asks_this c.args.self.now.notation c.args.self.now.readers t _ _ c.first_line.result.1.now c.loop-index.index _ r (omega arith) c.node-node.ensures
    c.first_line.ensures.lines (rw is_asked at c.in_ok-is_read_as.ensures) more)

pub returns : goal.returns
returns c =
    let t = replay c.args.self.now.tree.now.opening c.args.self.now.tree.now.journal in
    elim c.loop-index-test.branch [
      | else-loop-index-test w ↦ absurd (omega arith)
      | then-loop-index-test+else-is_empty+in_ok-is_read_as+else-not-branch+else-index-index-end w ↦
          let last : c.loop-index.index + 1 ≡ len t + 1 = omega arith in
          let is_asked : w.in_ok-is_read_as.field-0 ≡ true = w.if-not-branch.false in
          let empty = rw (w.rest-is) at c.is_empty-2.ensures in
          c.loop-index.invariant c.is_empty-2.result (asks_this c.args.self.now.notation c.args.self.now.readers t _ _ w.first_line.result.1.now c.loop-index.index _ _ (omega arith)
          w.node-node.ensures w.first_line.ensures.lines (rw is_asked at w.in_ok-is_read_as.ensures)
          (all_asked c.args.self.now.notation c.args.self.now.readers t w.first_line.result.1.now (c.loop-index.index + 1) _ last (λ e. grind (arith, nat_tests, empty), λ e. grind (arith, nat_tests, empty))))
    ]
