use Rattle.sd_analysis.proofs.Cited.{ap, arith, is_named, parts_of, sym, ◌||◌, ◌∙◌}
use Rattle.sd_analysis.proofs.Unnamed.{named_more, one_unnamed}
use Rattle.sd_analysis.proofs.compare_sides.unnamed.Goals as goal

pub loop-n-preserved : goal.loop-n-preserved
loop-n-preserved c =
    named_more (parts_of c.args.old.now) (parts_of c.args.new.now) c.loop-n.n c.loop-n.invariant
    (ap (λ s. is_named (parts_of c.args.old.now) s || is_named (parts_of c.args.new.now) s) (sym c.numbered-sid.ensures)
    ∙ sym c.either_names-in-loop-n.ensures ∙ c.if-not-either_names-2.false)

pub unreachable-requires : goal.unreachable-requires
unreachable-requires c =
    one_unnamed (parts_of c.args.old.now) (parts_of c.args.new.now) c.loop-n.n c.loop-n.invariant c.entries.result.now c.entries-2.result.now
    c.entries.ensures c.entries-2.ensures (omega (arith, c.loop-n-test.false))
