use Rattle.sd_tree.proofs.Cited.{TreeValue, ap, tree_of}
use Rattle.sd_tree.proofs.Stands.{planned_of_tree, refused_of_tree}
use Rattle.sd_tree.proofs.tree.Tree.plan_or_refusal.Goals as goal

pub returns-clause-plan : goal.returns-clause-plan
returns-clause-plan c =
    let t = c.args.self.now in
    planned_of_tree t.opening t.journal c.self.inside.opening.limits c.view.result.mapping.now (tree_of c.view.result.nodes.now) c.len.result c.args.edit.now c.plan_or_refusal.result (ap (λ (v : TreeValue). v.opening.limits) c.self.view_is) c.view.ensures.mapping c.view.ensures.tree c.len.ensures.length c.plan_or_refusal.ensures.plan c.plan_or_refusal.ensures.accepted

pub returns-clause-refused : goal.returns-clause-refused
returns-clause-refused c =
    let t = c.args.self.now in
    refused_of_tree t.opening t.journal c.self.inside.opening.limits c.view.result.mapping.now (tree_of c.view.result.nodes.now) c.len.result c.args.edit.now c.plan_or_refusal.result (ap (λ (v : TreeValue). v.opening.limits) c.self.view_is) c.view.ensures.mapping c.view.ensures.tree c.len.ensures.length c.plan_or_refusal.ensures.refused
