-- The second part goes on from what the first came to.
use Rattle.std.proofs.Common.{[], ◌++◌, map}
use Rattle.sd_check.proofs.question.Question.judge_each.Goals as goal

pub returns : goal.returns
returns g c =
    let front = map g.E.Entry.ace c.args.front.now in
    let back = map g.E.Entry.ace c.args.back.now in
    c.verdict.ensures (front ++ back) (c.over-whole.ensures front (c.over-half.ensures [] (c.begin.ensures _)))
