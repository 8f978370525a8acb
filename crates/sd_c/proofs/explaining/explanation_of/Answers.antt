use Rattle.sd_c.proofs.Cited.{Ok, RequestValue, descriptor_of, rules, ◌≡◌}
use Rattle.sd_c.specs.Kept.{asked_of}
use Rattle.sd_c.proofs.explaining.explanation_of.Goals as goal

pub returns-clause-ok : goal.returns-clause-ok
unfolding asked_of
returns-clause-ok c =
    let r : RequestValue = record { descriptor = descriptor_of c.deref.result.now; token = c.deref-2.result.now; mapping = c.in_ok-mapping.mapping } in
    let read : asked_of c.args.first.now c.args.second.now c.args.mapping ≡ Ok r = search rules in
    (r, read, c.explain_descriptor.ensures.reasons, c.explain_descriptor.ensures.verdict)
