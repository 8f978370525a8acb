use Rattle.std.proofs.Common.{◌≡◌, ap, sym, ◌∙◌}
use Rattle.sd_history.proofs.Chaining.{writes_moves}
use Rattle.sd_history.proofs.writer.HistoryWriter.write.Goals as goal

pub compare_exchange-requires : goal.compare_exchange-requires
compare_exchange-requires g c =
    let self = c.self.inside in
    let head = c.self.invariant.0 in
    let book = ap (λ w. w.book) head in
    let offer = c.plain-offer.ensures in
    let own : c.plain-offer.result.ask.own ≡ self.pen.nib.key =
    ap (λ e. e.own) offer.1 ∙ ap (λ p. p.nib.key) c.of-2.ensures in (
      ap (λ w. w.tracked) head,
      c.self.invariant.1 ∙ sym book,
      c.self.invariant.2 ∙ sym book,
      offer.0,
      rw (ap (λ w. w.key) head, offer.3)
          (writes_moves self.seen.log self.pen.nib c.plain-offer.result.ask c.self.invariant.3 own),
    )
