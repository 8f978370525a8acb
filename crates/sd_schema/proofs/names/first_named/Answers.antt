use Rattle.std.proofs.Common.{sym, ◌∙◌}
use Rattle.sd_schema.proofs.Named.{named_here, named_later, named_never}
use Rattle.sd_schema.proofs.names.first_named.Goals as goal

pub loop-row-preserved : goal.loop-row-preserved
loop-row-preserved c =
    c.loop-row.invariant ∙ named_later c.args.rows.now c.loop-row.row-index c.row-item.result c.args.text.now c.loop-row-test.true c.row-item.is
    (sym c.is_named.ensures ∙ c.if-is_named.false)

pub returns-then-is_named : goal.returns-then-is_named
returns-then-is_named c =
    sym (c.loop-row.invariant ∙ named_here c.args.rows.now c.loop-row.row-index c.row-item.result c.args.text.now c.loop-row-test.true c.row-item.is
    (sym c.is_named.ensures ∙ c.if-is_named.true))

pub returns : goal.returns
returns c = sym (c.loop-row.invariant ∙ named_never c.args.rows.now c.loop-row.row-index c.args.text.now c.loop-row-test.false)
