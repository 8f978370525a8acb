use Rattle.sd_tree.proofs.Cited.{TreeValue, ap, edits_in, replay, ◌∙◌}
use Rattle.sd_tree.proofs.Stands.{standing_from_stored}
use Rattle.sd_tree.proofs.tree.Tree.view.Goals as goal

pub returns-clause-standing : goal.returns-clause-standing
returns-clause-standing c = standing_from_stored c.self.inside.opening (edits_in c.self.inside.journal) c.self.inside.nodes c.self.invariant

pub returns-clause-mapping : goal.returns-clause-mapping
returns-clause-mapping c = ap (λ (t : TreeValue). t.opening.mapping) c.self.view_is

pub returns-clause-tree : goal.returns-clause-tree
returns-clause-tree c = c.self.invariant.tree ∙ ap (λ (t : TreeValue). replay t.opening t.journal) c.self.view_is
