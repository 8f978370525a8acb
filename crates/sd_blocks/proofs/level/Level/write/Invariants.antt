-- What is left of the run, written, makes of the list what the whole run makes of it.
use Rattle.sd_blocks.proofs.Cited.{length, written, ◌+◌, ◌≡◌, ◌≤◌}
use Rattle.sd_blocks.proofs.level.Level.write.Given as goal

abbrev pub invariant-left : goal.invariant-left
invariant-left g l = record {
  len : length l.self ≡ length l.initial.self;
  fits : l.at + length l.run.items ≤ length l.self;
  whole : written l.at l.run.items l.self ≡ written l.at l.initial.run.items l.initial.self;
}

abbrev pub decreases-left : goal.decreases-left
decreases-left g l = length l.run.items
