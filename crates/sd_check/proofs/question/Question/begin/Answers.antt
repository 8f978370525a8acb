-- Before any entry nothing is settled.
use Rattle.std.proofs.Common.{refl, ◌∙◌, ap}
use Rattle.sd_check.proofs.Cited.{applies, applies_again, asking, owners_in, rights_in, wanted_bits}
use Rattle.sd_check.proofs.Passes.{pass_begins}
use Rattle.sd_check.proofs.question.Question.begin.Goals as goal

pub returns : goal.returns
returns g c = λ both.
    let q = asking g.O.Trustee.sid c.args.self.now in
    let bits = wanted_bits q.mapping q.asked in
    let rights = c.common-rights.ensures ∙ ap rights_in c.wanted_bits-wanted.ensures in
    let kept = c.owners_rights.ensures ∙ ap (owners_in q.token q.owner) c.wanted_bits-wanted.ensures in
    record {
      first = pass_begins q.mapping (applies q.token q.owner) (rights_in bits) (owners_in q.token q.owner bits) _ c.owners_rights.result rights refl kept;
      second = λ yes. pass_begins q.mapping (applies_again q.token q.owner) (rights_in bits) (owners_in q.token q.owner bits) _ c.owners_rights.result rights refl kept;
    }
