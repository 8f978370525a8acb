-- Where its place has no link, nobody has the SID.
use Rattle.std.proofs.Common.{sym, ◌∙◌}
use Rattle.sd_check.proofs.Cited.{Deny}
use Rattle.sd_check.proofs.Chains.{nobody_there}
use Rattle.sd_check.proofs.token.Token.may_matter.Goals as goal

pub returns-clause-first : goal.returns-clause-first
returns-clause-first g c = λ no kind. rw (← c.self.view_is)
    (nobody_there _ _ c.self.inside.user _ _ (g.S.Trustee.sid c.args.sid.now) c.self.invariant.2 kind c.self.invariant.0 c.self.invariant.1 (sym c.may_hold.ensures ∙ no)).0

pub returns-clause-again : goal.returns-clause-again
returns-clause-again g c = λ no. rw (← c.self.view_is)
    (nobody_there _ _ c.self.inside.user _ _ (g.S.Trustee.sid c.args.sid.now) c.self.invariant.2 Deny c.self.invariant.0 c.self.invariant.1 (sym c.may_hold.ensures ∙ no)).1

pub returns-clause-owner_rights : goal.returns-clause-owner_rights
returns-clause-owner_rights g c = λ no.
    (nobody_there _ _ c.self.inside.user _ _ (g.S.Trustee.sid c.args.sid.now) c.self.invariant.2 Deny c.self.invariant.0 c.self.invariant.1 (sym c.may_hold.ensures ∙ no)).2
