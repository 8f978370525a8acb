-- Each turn reads the next entry.
use Rattle.std.proofs.Common.{arith}
use Rattle.std.proofs.lemmas.List.{length-drop, take_rest}
use Rattle.std.proofs.lemmas.List.Sums.{sum_by_push}
use Rattle.sd_whole.specs.Entry.{whole_ace_size}
use Rattle.sd_c.proofs.EntriesLoop.{goes_on}
use Rattle.sd_c.proofs.with_entries.entries_in.Goals as goal

pub loop-rest-preserved : goal.loop-rest-preserved
loop-rest-preserved c =
    let rest = c.loop-rest.rest.now in
    let entry = c.in_ok-entry.entry in
    let size = c.in_ok-entry.size in
    let takes = c.in_ok-entry.ensures.size in
    rw (c.in_ok-push.ensures.items, take_rest rest size) (record {
      start = goes_on c.args.bytes.now c.loop-rest.entries.items rest entry size c.in_ok-entry.ensures.ok c.loop-rest.invariant.start;
      sizes = omega (arith, takes.0, takes.1, c.loop-rest.invariant.sizes, length-drop size rest, sum_by_push whole_ace_size c.loop-rest.entries.items entry);
    })
