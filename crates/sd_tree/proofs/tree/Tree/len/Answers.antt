use Rattle.sd_tree.proofs.Cited.{arith, edits_in, lawful_short}
use Rattle.sd_tree.proofs.tree.Tree.len.Goals as goal

pub len-requires : goal.len-requires
len-requires c =
    let short = lawful_short c.self.inside.opening (edits_in c.self.inside.journal) c.self.invariant.lawful in
    omega (arith, short, c.edits.ensures.known.edits)
