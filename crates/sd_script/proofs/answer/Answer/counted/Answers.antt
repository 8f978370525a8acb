-- Its first lines are counted alone.
use Rattle.sd_script.proofs.Cited.{LineOf, List, ap, tallied, ◌∙◌}
use Rattle.sd_script.proofs.Counting.{answer_counts}
use Rattle.sd_script.proofs.answer.Answer.counted.Goals as goal

pub returns : goal.returns
returns c =
    let a = c.self.inside in
    let count = λ (lines : List LineOf). tallied c.args.line.now lines c.args.counts in
    c.with.ensures ∙ ap count c.deref.ensures.value
    ∙ answer_counts c.args.line.now a.lines.items a.ends.items a.made c.args.counts c.self.invariant ∙ ap count c.self.view_is
