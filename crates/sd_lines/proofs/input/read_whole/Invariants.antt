-- The text is what is gone from the reader, no read has failed, and each turn adds at least one byte.
use Rattle.sd_lines.proofs.Cited.{Consumes, MAX_INPUT_BYTES, has_failed, inner_of, vec_len, ◌-◌, ◌≡◌, ◌≤◌}
use Rattle.sd_lines.proofs.input.read_whole.Given as goal

abbrev pub invariant-reads : goal.invariant-reads
invariant-reads g l = record {
  consumed : Consumes (g.R.Read.remaining (inner_of l.initial.reader)) (g.R.Read.remaining (inner_of l.reader)) l.text.items;
  within : vec_len l.text ≤ MAX_INPUT_BYTES;
  unfailed : has_failed l.reader ≡ has_failed l.initial.reader;
}

abbrev pub decreases-reads : goal.decreases-reads
decreases-reads g l = MAX_INPUT_BYTES - vec_len l.text
