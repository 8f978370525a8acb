-- A SID that was denied before, and a new one.
use Rattle.std.proofs.Common.{sym, ◌∙◌, refl}
use Rattle.sd_analysis.proofs.Walks.{deny_is_known, deny_is_new}
use Rattle.sd_analysis.proofs.who_walk.Walk.deny.Goals as goal

pub returns-in_ok-push : goal.returns-in_ok-push
returns-in_ok-push c = λ granted undecided is.
    deny_is_new c.args.base.now granted undecided c.args.self.now _ c.args.sid.now c.requires (sym c.stands_for.ensures ∙ c.if-stands_for.false) c.in_ok-push.ensures.items refl refl is

pub returns-else-not-is_denied : goal.returns-else-not-is_denied
returns-else-not-is_denied c = λ granted undecided is.
    deny_is_known c.args.base.now granted undecided c.args.self.now c.args.sid.now c.requires (sym c.is_denied.ensures ∙ c.if-not-is_denied.false) is
