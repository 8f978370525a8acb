use Rattle.std.proofs.Common.{ap, sym, ◌∙◌}
use Rattle.sd_history.proofs.Chaining.{grows_moves}
use Rattle.sd_history.proofs.writer.fresh_pen.Goals as goal

pub compare_exchange-requires : goal.compare_exchange-requires
compare_exchange-requires g c =
    let head = c.requires in
    let copy = c.again-copy.ensures in
    let offer = c.plain-offer.ensures in
    let pen = c.no_pen-pen.ensures in
    let book = ap (λ s. s.book) copy ∙ sym (ap (λ w. w.book) head) in (
      ap (λ w. w.tracked) head,
      book,
      pen.0 ∙ book,
      offer.0,
      rw (ap (λ w. w.key) head, pen.1, offer.3) (grows_moves c.again-copy.result.log),
    )
