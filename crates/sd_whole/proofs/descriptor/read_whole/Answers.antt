-- What is parsed is whole.
use Rattle.sd_whole.proofs.Cited.{arith}
use Rattle.sd_whole.proofs.ReadIsWhole.{is_whole}
use Rattle.sd_whole.proofs.descriptor.read_whole.Goals as goal

pub returns-clause-whole : goal.returns-clause-whole
returns-clause-whole c = is_whole c.args.bytes.now c.read_parts.result (λ i. omega (arith, c.type_inv.bytes i)) c.read_parts.ensures.read
