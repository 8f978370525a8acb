use Rattle.sd_tree.proofs.Cited.{None, early_refusal, err_from_is_err_and, refusal_by_parts, sym, tree_of, ◌∙◌, ◌≡◌}
use Rattle.sd_tree.proofs.Fitting.{no_large_planned, late_error}
use Rattle.sd_tree.proofs.tree_view.TreeView.plan_or_refusal.Goals as goal

pub returns-in_err-plan-clause-refused : goal.returns-in_err-plan-clause-refused
returns-in_err-plan-clause-refused c =
    let p = err_from_is_err_and c.from_residual-in_err-plan.result c.from_residual-in_err-plan.ensures.1 in
    let t = tree_of c.args.self.now.nodes.now in
    let e = c.args.edit.now in
    let early : early_refusal t e ≡ None = sym c.in_default.ensures in
    rw (p.1, p.2) (late_error c.args.limits c.args.self.now.mapping.now t c.args.edits e c.in_err-plan.field-0.0 early
    (rw c.in_ok-edit.ensures at c.in_err-plan.ensures.refused))

pub returns-in-Some-limit_refusal-clause-refused : goal.returns-in-Some-limit_refusal-clause-refused
returns-in-Some-limit_refusal-clause-refused c =
    let g = c.args.self.now.mapping.now in
    let bs = c.args.self.now.nodes.now in
    let e = c.args.edit.now in
    let early : early_refusal (tree_of bs) e ≡ None = sym c.in_default.ensures in
    let plan = rw c.in_ok-edit.ensures at c.in_ok-plan.ensures.plan in
    let limits = rw (c.get.ensures ∙ c.in_ok-edit.ensures) at c.limit_refusal.ensures in
    refusal_by_parts c.args.limits g (tree_of bs) c.args.edits e _ early (no_large_planned g bs c.requires.kept _ c.in_ok-plan.plan plan) (sym c.in-Some-limit_refusal.is ∙ limits)

pub returns-in-None-clause-accepted : goal.returns-in-None-clause-accepted
returns-in-None-clause-accepted c =
    let g = c.args.self.now.mapping.now in
    let bs = c.args.self.now.nodes.now in
    let e = c.args.edit.now in
    let early : early_refusal (tree_of bs) e ≡ None = sym c.in_default.ensures in
    let plan = rw c.in_ok-edit.ensures at c.in_ok-plan.ensures.plan in
    let limits = rw (c.get.ensures ∙ c.in_ok-edit.ensures) at c.limit_refusal.ensures in
    refusal_by_parts c.args.limits g (tree_of bs) c.args.edits e _ early (no_large_planned g bs c.requires.kept _ c.in_ok-plan.plan plan) (sym c.in-None.is ∙ limits)
