-- The partners so far.
use Rattle.sd_show.proofs.Cited.{map, partner, take, values, ◌≡◌}
use Rattle.sd_show.proofs.pairs.partners.Given as goal

abbrev pub invariant-loop-one : goal.invariant-loop-one
invariant-loop-one l = l.found.items ≡ map (partner (values l.others)) (values (take l.one-index l.list))
