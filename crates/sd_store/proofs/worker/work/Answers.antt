use Rattle.sd_store.proofs.Dealing.{has_done}
use Rattle.sd_store.proofs.worker.work.Goals as goal

pub returns-in-Ok : goal.returns-in-Ok
returns-in-Ok g c = has_done g.J.StoreId.opening g.G.Gate.always c.args.queries.now c.args.step c.args.worker c.args.checker.now c.draw.new.checker c.keep.new.self c.in-Ok.answers.items
    c.keep.ensures.seen.0 c.keep.ensures.seen.1 c.keep.ensures.drawn.0 c.keep.ensures.drawn.1 c.draw.ensures.further c.in-Ok.ensures.drawn c.in-Ok.ensures.all
