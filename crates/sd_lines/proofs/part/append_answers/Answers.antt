use Rattle.sd_lines.proofs.Cited.{ap, append_assoc, arith, drop, ends_run, false, length, length-append, length-drop, length-take, nat_tests, sym, take_rest, ◌++◌, ◌-◌, ◌<◌, ◌∙◌, ◌≡◌}
use Rattle.sd_lines.proofs.Steps.{line_answered, part_kept}
use Rattle.sd_lines.proofs.part.append_answers.Goals as goal

pub returns-then-is_empty-clause-takes : goal.returns-then-is_empty-clause-takes
returns-then-is_empty-clause-takes g c now old start text more a =
    let s = c.split.ensures in
    part_kept (c.lines.invariant.continues now old start text more a) c.split.result.0.now _ _
    (ap (λ l. l ++ more) s.parts ∙ append_assoc c.split.result.0.now c.split.result.1.now more) s.none c.in_ok-keep.ensures

pub lines-preserved : goal.lines-preserved
lines-preserved g c =
    let s = c.split.ensures in
    let left = c.split.result.1.now in
    let some : 0 < length left = let test = sym c.is_empty.ensures ∙ c.if-is_empty.false in grind (arith, nat_tests) in
    let goes_on : ends_run c.args.form c.keep.new.line.items ≡ false =
    rw (c.deref.ensures.value) at (sym c.ends_run.ensures ∙ c.if-ends_run.false) in
    let answered = c.in_ok-answer.ensures in
    let asked = rw (c.asked.ensures, c.line.ensures, c.deref-in-lines.ensures.value) at answered.2 in record {
      continues = λ now old start text more a.
          rw (answered.1, c.clear.ensures.items, take_rest left 1)
          (line_answered
          (part_kept (c.lines.invariant.continues now old start text more a) c.split.result.0.now _ _
          (ap (λ l. l ++ more) s.parts ∙ append_assoc c.split.result.0.now left more) s.none c.in_ok-keep.ensures)
          _ answered.0 _ (ap (λ l. l ++ more) (s.end some)) goes_on asked);
      less = omega (arith, c.lines.invariant.less, ap length s.parts, length-append c.split.result.0.now left, length-take (length left - 1) (drop 1 left), length-drop 1 left);
    }
