-- Where there is room for all entries, there is room for the next one.
use Rattle.sd_wire.proofs.Cited.{ace_size, ap, arith, length, length-append, ℕ}
use Rattle.sd_wire.proofs.Lengths.{room_for_next}
use Rattle.sd_wire.proofs.list.push_entries.Goals as goal

pub push_entry-requires : goal.push_entry-requires
push_entry-requires c =
    let so_far = ap length c.loop-entry.invariant.0 in
    omega (arith, so_far, length-append {A = ℕ}, room_for_next c.args.entries.now c.loop-entry.entry-index c.entry-item.result c.loop-entry-test.true, ap ace_size c.entry-item.is)
