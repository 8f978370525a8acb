-- An entry that is parsed is in the bytes.
use Rattle.sd_whole.proofs.Cited.{arith}
use Rattle.sd_whole.proofs.EntryStands.{sized}
use Rattle.sd_whole.proofs.entry.read_whole_entry.Goals as goal

pub returns-clause-size : goal.returns-clause-size
returns-clause-size c = sized c.args.bytes.now c.read_entry.result (λ i. omega (arith, c.type_inv.bytes i)) c.read_entry.ensures.read
