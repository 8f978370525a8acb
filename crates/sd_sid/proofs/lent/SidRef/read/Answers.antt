-- As many sub-authorities are read as are told.
use Rattle.sd_sid.proofs.Cited.{ap, length-map-range_with_len, rules, sym, ◌*◌, ◌+◌}
use Rattle.sd_sid.proofs.lent.SidRef.read.Goals as goal

pub returns-clause-size : goal.returns-clause-size
returns-clause-size c = (sym (ap (λ n. 8 + 4 * n) (length-map-range_with_len _ 0 _)), (search rules))
