-- What is read stands in the bytes.
use Rattle.std.proofs.Common.{arith}
use Rattle.sd_wire.proofs.ReadIsHeld.{is_held}
use Rattle.sd_wire.proofs.descriptor.read_descriptor.Goals as goal

pub returns-clause-held : goal.returns-clause-held
returns-clause-held c = is_held c.args.bytes.now c.read_parts.result (λ i. omega (arith, c.type_inv.bytes i)) c.read_parts.ensures.read
