use Rattle.sd_text.proofs.Cited.{and_parts, codes, entry, err_from_is_err_and, is_ok, sym, true, ◌∙◌, ◌≡◌}
use Rattle.sd_text.specs.Entry.{entries}
use Rattle.sd_text.proofs.Loops.{item_last, item_fault, item_takes}
use Rattle.sd_text.proofs.Entries.{parsed_more, list_made}
use Rattle.sd_text.proofs.cursor.Cursor.entries.Goals as goal

pub returns-in_err-entry : goal.returns-in_err-entry
unfolding entries
returns-in_err-entry c =
    let p = err_from_is_err_and c.from_residual.result c.from_residual.ensures.1 in
    rw (p.1, p.2) (item_fault c.entries.invariant.reached (sym c.entries-test.ensures.stood) (rw (sym c.entries.invariant.sized, sym c.entries-test.ensures.rest) c.in_err-entry.ensures.entry))

pub entries-smaller : goal.entries-smaller
entries-smaller c = item_takes (codes "(") (entry c.args.known c.entries.size) c.entries.self.rest.now c.in_ok-entry.entry c.entry.new.self.rest.now (sym c.entries-test.ensures.stood) (rw (sym c.entries-test.ensures.rest) c.in_ok-entry.ensures.entry)

pub entries-preserved : goal.entries-preserved
entries-preserved c =
    rw c.size-size.ensures.size (parsed_more c.entries.invariant (sym c.entries-test.ensures.stood) (rw (sym c.entries-test.ensures.rest) c.in_ok-entry.ensures.entry) c.in_ok-entry.ensures.fits
    (λ still.
    let both = and_parts c.entries.stored c.is_ok-stored.result still in
    let ok : is_ok c.push.result ≡ true = sym c.is_ok-stored.ensures.value ∙ both.1 in
    (both.0, rw ok at c.push.ensures.items)))

pub returns-then-stored : goal.returns-then-stored
unfolding entries
returns-then-stored c =
    let kept = c.entries.invariant.kept c.if-stored.true in
    let made = list_made c.new.result c.unwrap.result c.entries.entries.items c.new.ensures.list c.unwrap.ensures in
    rw (made, kept, c.entries-test.ensures.rest) (item_last c.entries.invariant.reached (sym c.entries-test.ensures.stood))

pub returns-else-stored : goal.returns-else-stored
unfolding entries
returns-else-stored c =
    let lost = c.entries.invariant.lost c.if-stored.false in
    rw (item_last c.entries.invariant.reached (sym c.entries-test.ensures.stood)) (sym c.entries-test.ensures.rest, lost)
