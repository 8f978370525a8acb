-- The bytes start with the entries so far, which take all of them but the rest.
use Rattle.std.proofs.Common.{length, sum_by, ◌+◌, ◌≡◌}
use Rattle.sd_whole.specs.Entry.{whole_ace_size}
use Rattle.sd_c.specs.WithEntries.{StartsWith}
use Rattle.sd_c.proofs.with_entries.entries_in.Given as goal

abbrev pub invariant-loop-rest : goal.invariant-loop-rest
invariant-loop-rest l = record {
  start : StartsWith l.bytes l.entries.items l.rest;
  sizes : sum_by whole_ace_size l.entries.items + length l.rest ≡ length l.bytes;
}

abbrev pub decreases-loop-rest : goal.decreases-loop-rest
decreases-loop-rest l = length l.rest
