-- All rows are those so far.
use Rattle.std.proofs.Common.{◌∙◌, arith}
use Rattle.std.proofs.lemmas.List.{take_all}
use Rattle.sd_usage.specs.Texts.{is_among}
use Rattle.sd_usage.proofs.Rows.{filtered}
use Rattle.sd_usage.proofs.names.command_names.Goals as goal

pub returns : goal.returns
returns c =
    let all = take_all c.loop-row.row-index c.args.rows.now (omega (arith, c.loop-row-test.false, c.loop-row.auto.row-index-end)) in
    (rw all at c.loop-row.invariant)
    ∙ filtered (λ row. is_among c.args.commands row.0.now row.1) (λ row. row.0.now) c.args.rows.now
