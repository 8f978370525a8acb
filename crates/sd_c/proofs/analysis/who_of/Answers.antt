use Rattle.sd_c.proofs.Cited.{AreWhoLines, BaseValue, Ok, descriptor_in, descriptor_of, rules, ◌≡◌}
use Rattle.sd_c.specs.Analysis.{asked_over, base_read}
use Rattle.sd_c.proofs.Unasked.{of_base}
use Rattle.sd_c.proofs.analysis.who_of.Goals as goal

pub returns-clause-ok : goal.returns-clause-ok
unfolding asked_over base_read
returns-clause-ok c =
    let d = descriptor_of c.deref.result.now in
    let base : BaseValue = record { groups = c.in_ok-groups.groups.items; mapping = c.in_ok-mapping.mapping } in
    let read : asked_over (descriptor_in c.args.kept.now) c.args.groups.now c.args.states.now c.args.mapping ≡ Ok (d, base) = search rules in
    let made = of_base (AreWhoLines c.args.asked d) c.in_ok-mapping.mapping c.deref-2.result.now c.in_ok-groups.groups.items c.in_ok-kept_who.field-0.value
    c.deref-2.ensures.value c.in_ok-kept_who.ensures in
    (made.0, made.1, (d, base, read, made.2))
