use Rattle.sd_text.proofs.Cited.{ap, arith, digits_len, ◌∙◌}
use Rattle.sd_text.proofs.Runs.{front_run}
use Rattle.sd_text.proofs.cursor.run_of.Goals as goal

pub returns-then-len-lt-NUMBER_FRONT-clause-len : goal.returns-then-len-lt-NUMBER_FRONT-clause-len
returns-then-len-lt-NUMBER_FRONT-clause-len c =
    let same = c.short_run_of-value.ensures.len ∙ ap (digits_len c.args.radix) c.split_at.ensures.front in
    same ∙ front_run c.args.radix 11 c.args.text.now (omega arith)
