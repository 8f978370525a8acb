use Rattle.sd_tree.proofs.tree.Tree.copy.Goals as goal

pub invariant_of-result : goal.invariant_of-result
invariant_of-result c = rw (c.in_ok-opening.ensures, c.in_ok-journal.ensures, c.in_ok-nodes.ensures) c.self.invariant
