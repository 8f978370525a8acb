use Rattle.sd_blocks.proofs.Cited.{IsBlockOf, StartFrom, arith, joined, length, set, sym, ◌<◌, ◌∙◌, ◌≡◌}
use Rattle.sd_blocks.proofs.Written.{kept_starts}
use Rattle.sd_blocks.proofs.Changes.{exchanged_ok, same_err}
use Rattle.sd_blocks.proofs.level.Level.exchange.Goals as goal

pub invariant_of-self : goal.invariant_of-self
invariant_of-self g c =
    kept_starts c.self.inside.blocks.items c.self.inside.len c.args.from c.locate-k.result c.index_mut-block.result.now c.exchange.new.self c.self.invariant.0 c.self.invariant.1
    (rw c.as_slice.ensures.value at c.locate-k.ensures) c.index_mut-block.ensures.value c.exchange.ensures.start c.exchange.ensures.len

pub returns-clause-len : goal.returns-clause-len
returns-clause-len g c =
    let kept : StartFrom 0 (set c.self.inside.blocks.items c.locate-k.result c.exchange.new.self) × c.self.inside.len ≡ length (joined (set c.self.inside.blocks.items c.locate-k.result c.exchange.new.self)) =
    kept_starts c.self.inside.blocks.items c.self.inside.len c.args.from c.locate-k.result c.index_mut-block.result.now c.exchange.new.self c.self.invariant.0 c.self.invariant.1
    (rw c.as_slice.ensures.value at c.locate-k.ensures) c.index_mut-block.ensures.value c.exchange.ensures.start c.exchange.ensures.len in
    rw (← c.self.view_is) (sym kept.1 ∙ c.self.invariant.1)

pub returns-clause-done : goal.returns-clause-done
returns-clause-done g c =
    let from_in : c.args.from < length (joined c.self.inside.blocks.items) = rw c.self.view_is c.requires.from in
    let to_in : c.args.to < length (joined c.self.inside.blocks.items) = rw c.self.view_is c.requires.to in
    let source : IsBlockOf c.self.inside.blocks.items c.args.from c.locate-k.result = rw c.as_slice.ensures.value at c.locate-k.ensures in
    let found : IsBlockOf c.self.inside.blocks.items c.args.to c.locate.result = rw c.as_slice-2.ensures.value at c.locate.ensures in
    let one : c.locate.result ≡ c.locate-k.result = omega arith in
    let target : IsBlockOf c.self.inside.blocks.items c.args.to c.locate-k.result = rw one at found in
    rw (← c.self.view_is) (exchanged_ok c.exchange.result c.self.inside.blocks.items c.args.from c.args.to c.locate-k.result c.index_mut-block.result.now c.exchange.new.self c.start-start.result c.args.item
    source target from_in to_in c.index_mut-block.ensures.value c.start-start.ensures c.exchange.ensures.done)

pub returns-clause-refused : goal.returns-clause-refused
returns-clause-refused g c =
    let source : IsBlockOf c.self.inside.blocks.items c.args.from c.locate-k.result = rw c.as_slice.ensures.value at c.locate-k.ensures in
    rw (← c.self.view_is) (same_err c.exchange.result c.self.inside.blocks.items c.locate-k.result c.index_mut-block.result.now c.exchange.new.self source.inside c.index_mut-block.ensures.value c.exchange.ensures.refused)
