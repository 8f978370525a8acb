-- Where there is room for all entries, there is room for the next one.
use Rattle.sd_whole.proofs.Cited.{ap, arith, length, length-append, whole_ace_size, ℕ}
use Rattle.sd_whole.proofs.Lengths.{room_for_next}
use Rattle.sd_whole.proofs.list.push_whole_entries.Goals as goal

pub push_whole_entry-requires : goal.push_whole_entry-requires
push_whole_entry-requires c =
    let so_far = ap length c.loop-entry.invariant.0 in
    let next = room_for_next c.args.entries.now c.loop-entry.entry-index c.entry-item.result c.loop-entry-test.true in
    record {
      room = omega (arith, so_far, length-append {A = ℕ}, next, ap whole_ace_size c.entry-item.is);
      small = omega (arith, next, ap whole_ace_size c.entry-item.is);
    }
