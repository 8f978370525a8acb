use Rattle.sd_store.proofs.Cited.{Query, arith, length, slice_index_or, sym, ◌<◌, ◌∙◌, ◌≡◌}
use Rattle.sd_store.proofs.Answering.{goes_under_way}
use Rattle.sd_store.proofs.Dealing.{any_default}
use Rattle.sd_store.proofs.worker.fill.Goals as goal

pub loop-at-preserved : goal.loop-at-preserved
loop-at-preserved g c =
    let queries = c.args.queries.now in
    let at = c.loop-at.at in
    let query = c.index-queries-at.result in
    let within : at < length queries = omega (arith, c.loop-at-test.true) in
    let there : (q : Query) → slice_index_or queries at q ≡ query = λ q. any_default queries at q query within ∙ sym c.index-queries-at.is in
    goes_under_way g.J.StoreId.opening queries c.args.worker c.args.step at c.args.checker.now c.loop-at.checker c.ask.new.checker c.loop-at.answers.items c.ask.new.answers.items query
    within there c.ask.ensures.floor c.in_ok-ask.ensures.marks c.ask.ensures.lawful c.in_ok-ask.ensures.answered c.loop-at.invariant
