-- An allow may grant the right, a deny doesn't.
use Rattle.sd_analysis.proofs.Cited.{Allow, Deny, and-false, and-true, ap, on_ok_weaker, or-false, refl, stands_for, sym, ◌&&◌, ◌||◌, ◌∙◌}
use Rattle.sd_analysis.proofs.Walks.{walk_alike}
use Rattle.sd_analysis.proofs.who_walk.Walk.step.Goals as goal

pub returns-in-Allow : goal.returns-in-Allow
returns-in-Allow c = rw c.in-Allow.is (on_ok_weaker c.allow.result (λ steps granted undecided is.
    walk_alike c.args.base.now _ _ _ _ _ (λ t has. ap (λ x. granted t || x) (sym (and-true (undecided t && stands_for t Allow c.args.sid.now)))) (λ t has refused. refl) (steps granted undecided is))
    c.allow.ensures)

pub returns-in-Deny : goal.returns-in-Deny
returns-in-Deny c = rw c.in-Deny.is (on_ok_weaker c.deny.result (λ steps granted undecided is.
    walk_alike c.args.base.now _ _ _ _ _ (λ t has. sym (ap (λ x. granted t || x) (and-false (undecided t && stands_for t Deny c.args.sid.now)) ∙ or-false (granted t))) (λ t has refused. refl) (steps granted undecided is))
    c.deny.ensures)
