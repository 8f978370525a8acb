-- A handle that keeps nothing.
use Rattle.sd_c.proofs.Cited.{AreLintLines, DescriptorHandle, kept_in, rules, ◌≡◌}
use Rattle.sd_c.proofs.Unasked.{no_lines, nothing_kept}
use Rattle.sd_c.proofs.analysis.hudarin_lint.Goals as goal

pub returns-in_default-clause-answer : goal.returns-in_default-clause-answer
returns-in_default-clause-answer c =
    let a = c.args in
    let none : a.descriptor.now.is_there ≡ 0 = search rules in
    no_lines AreLintLines (kept_in a.descriptor.now) a.groups.now a.states.now a.mapping a.lines.now c.not_read.result DescriptorHandle
    (search rules) (nothing_kept a.descriptor.now none) c.not_read.ensures
