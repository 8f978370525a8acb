-- There is room for the header, as for all that stands behind it.
use Rattle.sd_wire.proofs.Cited.{arith, descriptor_of}
use Rattle.sd_wire.proofs.Lengths.{length_of_wire}
use Rattle.sd_wire.proofs.descriptor.write_descriptor.Goals as goal

pub push_header-requires : goal.push_header-requires
push_header-requires c = omega (arith, c.in_ok-bytes.ensures.exact, c.in_ok-bytes.ensures.len, length_of_wire (descriptor_of c.args.descriptor.now))
