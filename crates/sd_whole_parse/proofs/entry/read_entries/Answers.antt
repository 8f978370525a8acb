use Rattle.std.proofs.Common.{arith, drop, length, sym, ◌≤◌}
use Rattle.std.specs.Prelude.{codes}
use Rattle.sd_text.proofs.Parts.{begins_takes}
use Rattle.sd_whole_parse.proofs.Loop.{parsed_more, parsed_none}
use Rattle.sd_whole_parse.proofs.entry.read_entries.Goals as goal

pub entries-init : goal.entries-init
entries-init c = rw c.new-entries.ensures.items (parsed_none c.args.known c.args.cursor.now.rest.now)

pub entries-preserved : goal.entries-preserved
entries-preserved c =
    rw (c.in_ok-push.ensures.items, c.size-size.ensures.size) (parsed_more c.entries.invariant (sym c.entries-test.ensures.stood)
    (rw (sym c.entries-test.ensures.rest) c.in_ok-entry.ensures.entry) (rw (sym c.entries-test.ensures.rest) c.in_ok-entry.ensures.shorter) c.in_ok-entry.ensures.fits c.in_ok-entry.ensures.whole)

pub entries-smaller : goal.entries-smaller
entries-smaller c =
    let lt = begins_takes c.entries.cursor.rest.now (codes "(") (sym c.entries-test.ensures.stood) in
    let le : length c.read_entry.new.cursor.rest.now ≤ length (drop 1 c.entries.cursor.rest.now) = rw (sym c.entries-test.ensures.rest) c.in_ok-entry.ensures.shorter in
    omega arith
