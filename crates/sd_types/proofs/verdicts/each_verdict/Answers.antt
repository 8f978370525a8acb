use Rattle.std.proofs.Common.{sym}
use Rattle.std.proofs.lemmas.Result.{err_from_is_err_and}
use Rattle.sd_types.proofs.Steps.{one_verdict, verdict_error}
use Rattle.sd_types.specs.Verdicts.{node_verdict}
use Rattle.sd_types.proofs.verdicts.each_verdict.Goals as goal

pub returns-in_err-node_verdict : goal.returns-in_err-node_verdict
returns-in_err-node_verdict c =
    let error = err_from_is_err_and c.from_residual.result c.from_residual.ensures.1 in
    rw (error.1, error.2) (verdict_error (λ chain. chain.items) (node_verdict c.args.question.now c.args.descriptor.now) c.args.chains.now
    c.loop-chain.chain-index c.chain-item.result c.loop-chain-test.true (sym c.chain-item.is)
    _ c.loop-chain.verdicts.items c.loop-chain.invariant c.deref.result.now c.deref.ensures.value
    c.in_err-node_verdict.field-0.0 c.in_err-node_verdict.ensures)

pub loop-chain-preserved : goal.loop-chain-preserved
loop-chain-preserved c =
    one_verdict (λ chain. chain.items) (node_verdict c.args.question.now c.args.descriptor.now) c.args.chains.now
    c.loop-chain.chain-index c.chain-item.result c.loop-chain-test.true (sym c.chain-item.is)
    _ c.loop-chain.verdicts.items c.loop-chain.invariant c.deref.result.now c.deref.ensures.value
    c.push.new.self.items c.in_ok-node_verdict.field-0 c.in_ok-node_verdict.ensures c.in_ok-push.ensures.items
