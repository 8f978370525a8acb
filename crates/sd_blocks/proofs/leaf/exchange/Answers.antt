use Rattle.sd_blocks.proofs.Cited.{ap, arith, remove, ◌+◌, ◌∙◌}
use Rattle.sd_blocks.proofs.Changes.{later, earlier}
use Rattle.sd_blocks.proofs.leaf.exchange.Goals as goal

pub returns-in_ok-insert-clause-done : goal.returns-in_ok-insert-clause-done
returns-in_ok-insert-clause-done g c =
    c.remove-gone.ensures.items ∙ ap (λ xs. remove xs c.args.from) c.in_ok-insert.ensures.items
    ∙ later c.args.items.now.items c.args.from c.args.to c.args.item (omega arith) c.requires.to

pub returns-in_ok-insert-2-clause-done : goal.returns-in_ok-insert-2-clause-done
returns-in_ok-insert-2-clause-done g c =
    c.remove-gone-else-from-to.ensures.items ∙ ap (λ xs. remove xs (c.args.from + 1)) c.in_ok-insert-2.ensures.items
    ∙ earlier c.args.items.now.items c.args.from c.args.to c.args.item (omega arith) c.requires.from
