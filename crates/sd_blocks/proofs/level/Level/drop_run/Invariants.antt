-- So many elements are removed.
use Rattle.sd_blocks.proofs.Cited.{without_run, ◌≡◌}
use Rattle.sd_blocks.proofs.level.Level.drop_run.Given as goal

abbrev pub invariant-loop : goal.invariant-loop
invariant-loop g l = l.self ≡ without_run l.from l.counter l.initial.self
