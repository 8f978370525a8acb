-- A handle that keeps nothing.
use Rattle.sd_c.proofs.Cited.{DescriptorHandle, NewHandle, ap, both_kept, no_comparison, rules, ◌∙◌, ◌≡◌}
use Rattle.sd_c.proofs.Unasked.{no_compare, no_new, no_old}
use Rattle.sd_c.proofs.analysis.hudarin_compare.Goals as goal

pub returns-in_default-clause-answer : goal.returns-in_default-clause-answer
returns-in_default-clause-answer c =
    let a = c.args in
    let none : a.old.now.is_there ≡ 0 = search rules in
    no_compare (both_kept a.old.now a.new.now) a.groups.now a.states.now a.mapping a.lines.now c.no_comparison-in_default.result DescriptorHandle
    (search rules) (no_old a.old.now a.new.now none) (c.no_comparison-in_default.ensures ∙ ap no_comparison c.not_read.ensures)

pub returns-in_default-take-clause-answer : goal.returns-in_default-take-clause-answer
returns-in_default-take-clause-answer c =
    let a = c.args in
    let one : a.old.now.is_there ≡ 1 = search rules in
    let none : a.new.now.is_there ≡ 0 = search rules in
    no_compare (both_kept a.old.now a.new.now) a.groups.now a.states.now a.mapping a.lines.now c.no_comparison-in_default-take.result NewHandle
    (search rules) (no_new a.old.now a.new.now one none)
    (c.no_comparison-in_default-take.ensures ∙ ap no_comparison c.not_read-in_default-take.ensures)
