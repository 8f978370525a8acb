-- Where the entry takes no part, it changes nothing.
use Rattle.std.proofs.Common.{◌≡◌, true, false, not, ◌&&◌, sym, ◌∙◌, ap, arith}
use Rattle.sd_check.proofs.Cited.{applies, applies_again, asking, is_restricting, is_restricting_subject, owner_rights, same_sid, stands_for, stands_for_subject}
use Rattle.sd_check.proofs.Passes.{part_idle, takes_no_part, tally_silent}
use Rattle.sd_check.proofs.question.Question.deciding.Goals as goal

pub returns-then-is_inherit_only-clause-takes : goal.returns-then-is_inherit_only-clause-takes
returns-then-is_inherit_only-clause-takes g c =
    let q = asking g.O.Trustee.sid c.args.self.now in
    let entry = g.E.Entry.ace c.args.entry.now in
    let idle = sym c.is_inherit_only.ensures ∙ c.if-is_inherit_only.true in
    tally_silent _ q entry c.args.progress (part_idle q.mapping (applies q.token q.owner) entry idle)
    (λ _. part_idle q.mapping (applies_again q.token q.owner) entry idle) (ap (λ io. not io && same_sid entry.sid owner_rights) idle)

pub returns-then-not-stands-clause-takes : goal.returns-then-not-stands-clause-takes
returns-then-not-stands-clause-takes g c =
    let q = asking g.O.Trustee.sid c.args.self.now in
    let entry = g.E.Entry.ace c.args.entry.now in
    let known = c.in-Some.ensures in
    let other : same_sid entry.sid owner_rights ≡ false = ap (λ s. same_sid s owner_rights) (sym c.trustee.ensures) ∙ known.2 in
    let none : stands_for q.token entry.kind entry.sid ≡ false = ap (λ k. stands_for q.token k entry.sid) (sym c.kind.ensures)
    ∙ ap (stands_for q.token c.kind.result) (sym c.trustee.ensures) ∙ known.0 ∙ c.if-not-stands.true in
    let again : is_restricting q.token entry.sid ≡ false = ap (is_restricting q.token) (sym c.trustee.ensures) ∙ known.1 in
    tally_silent _ q entry c.args.progress (takes_no_part q.mapping (stands_for_subject q.token entry.kind) q.owner entry other none)
    (λ _. takes_no_part q.mapping (is_restricting_subject q.token) q.owner entry other again) (grind (arith, other))
