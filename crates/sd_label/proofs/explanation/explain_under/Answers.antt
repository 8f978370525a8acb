use Rattle.std.proofs.Common.{arith}
use Rattle.sd_check.specs.Check.{dacl_entries}
use Rattle.sd_explain.specs.Reasons.{reasons_of}
use Rattle.sd_label.proofs.Reasons.{all_written, told_under, written_more}
use Rattle.sd_label.proofs.explanation.explain_under.Goals as goal

pub loop-place-preserved : goal.loop-place-preserved
loop-place-preserved c =
    written_more c.args.taken c.explain_descriptor.result.reasons c.loop-place.reasons c.reason_under.result c.loop-place.place (omega arith) c.reason_under.ensures
    c.loop-place.invariant

pub returns-clause-reasons : goal.returns-clause-reasons
returns-clause-reasons c =
    all_written c.args.taken c.loop-place.place c.explain_descriptor.result.reasons _ c.loop-place.reasons (omega arith) c.loop-place.invariant c.explain_descriptor.ensures.reasons

pub returns-clause-verdict : goal.returns-clause-verdict
returns-clause-verdict c =
    let d = c.args.descriptor.now in
    told_under c.args.taken d.owner (dacl_entries d.dacl) c.args.mapping.now c.args.token.now c.args.asked c.loop-place.reasons
    (all_written c.args.taken c.loop-place.place c.explain_descriptor.result.reasons (reasons_of d.owner (dacl_entries d.dacl) c.args.mapping.now c.args.token.now c.args.asked)
    c.loop-place.reasons (omega arith) c.loop-place.invariant c.explain_descriptor.ensures.reasons)
