-- An entry takes fewer bytes in a list than in memory, so the sum fits.
use Rattle.std.proofs.Common.{arith}
use Rattle.sd_acl.proofs.list.acl_size.Goals as goal

pub overflow_add-size : goal.overflow_add-size
overflow_add-size c = omega arith
