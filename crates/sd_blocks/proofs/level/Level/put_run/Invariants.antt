-- What is left of the run, inserted, makes of the list what the whole run makes of it.
use Rattle.sd_blocks.proofs.Cited.{length, with_run, ◌≡◌, ◌≤◌}
use Rattle.sd_blocks.proofs.level.Level.put_run.Given as goal

abbrev pub invariant-loop-item : goal.invariant-loop-item
invariant-loop-item g l = record {
  place : l.at ≤ length l.self;
  whole : with_run l.at l.run.items l.self ≡ with_run l.at l.initial.run.items l.initial.self;
}

abbrev pub decreases-loop-item : goal.decreases-loop-item
decreases-loop-item g l = length l.run.items
