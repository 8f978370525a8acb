use Rattle.sd_c.proofs.Cited.{AreCompareLines, BaseValue, Ok, descriptor_of, rules, ◌≡◌}
use Rattle.sd_c.specs.Analysis.{asked_over, base_read, descriptors_in}
use Rattle.sd_c.proofs.Unasked.{of_base}
use Rattle.sd_c.proofs.analysis.compare_of.Goals as goal

pub returns-clause-ok : goal.returns-clause-ok
unfolding asked_over base_read descriptors_in
returns-clause-ok c =
    let old = descriptor_of c.deref.result.now in
    let new = descriptor_of c.deref-2.result.now in
    let base : BaseValue = record { groups = c.in_ok-groups.groups.items; mapping = c.in_ok-mapping.mapping } in
    let compared = c.in_ok-comparison_of.field-0 in
    let read : asked_over (descriptors_in c.args.first.now c.args.second.now) c.args.groups.now c.args.states.now c.args.mapping ≡ Ok ((old, new), base) =
    search rules in
    let made = of_base (λ b ls. AreCompareLines (old, new) b compared.gained compared.lost ls) c.in_ok-mapping.mapping c.deref-3.result.now
    c.in_ok-groups.groups.items compared.lines.value c.deref-3.ensures.value c.in_ok-comparison_of.ensures in
    (made.0, made.1, ((old, new), base, read, made.2))
