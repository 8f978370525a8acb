-- Such an entry takes part with nothing, in either pass, and limits nobody.
use Rattle.std.proofs.Common.{◌≡◌}
use Rattle.sd_check.proofs.Cited.{asking, part_of, Pass, First, Second, applies_in, not-true}
use Rattle.sd_check.proofs.Passes.{tally_silent, none_in, limits_nobody}
use Rattle.sd_check.proofs.question.Question.is_silent.Goals as goal

pub returns : goal.returns
returns g c = λ silent both progress.
    let q = asking g.O.Trustee.sid c.args.self.now in
    let entry = g.E.Entry.ace c.args.entry.now in
    let out = c.may_matter.ensures in
    let not_in = not-true _ silent in
    let none : (pass : Pass) → part_of q.mapping (applies_in pass q.token q.owner) entry ≡ 0 =
    none_in q.mapping q.token q.owner entry _ c.trustee.ensures (out.owner_rights not_in) (out.first not_in) (out.again not_in) in
    let free = limits_nobody q.mapping q.token q.owner entry _ c.trustee.ensures (out.owner_rights not_in) (out.first not_in) (out.again not_in) in
    tally_silent both q entry progress (none First) (λ _. none Second) free
