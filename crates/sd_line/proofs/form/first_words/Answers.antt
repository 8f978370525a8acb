use Rattle.sd_line.proofs.Cited.{rules, take_rest, ◌+◌}
use Rattle.sd_line.proofs.Cuts.{split_at, split_nowhere}
use Rattle.sd_line.proofs.form.first_words.Goals as goal

pub returns-then-len-form : goal.returns-then-len-form
returns-then-len-form c =
    let len = c.len_before-len.result in
    rw (take_rest c.args.form.now (len + 1)) (split_at 123 c.args.form.now len c.len_before-len.ensures.len c.if-len-form.true)

pub returns-else-len-form : goal.returns-else-len-form
returns-else-len-form c = split_nowhere 123 c.args.form.now (search rules)
