use Rattle.std.proofs.Common.{◌≡◌, map, take}
use Rattle.sd_path.proofs.PathTexts.{zero_for_slash}
use Rattle.sd_path.proofs.read.ended_names.Given as goal

abbrev pub invariant-loop-b : goal.invariant-loop-b
invariant-loop-b l = l.bytes.items ≡ map zero_for_slash (take l.b-index l.names)
