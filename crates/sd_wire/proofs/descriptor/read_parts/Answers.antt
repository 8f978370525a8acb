-- Memory is wanted where the DACL wants it, and what stands before the DACL was read.
use Rattle.sd_wire.proofs.Cited.{err_from_is_err_and, rules, sym}
use Rattle.sd_wire.proofs.descriptor.read_parts.Goals as goal

pub returns-in_err-dacl-clause-memory : goal.returns-in_err-dacl-clause-memory
returns-in_err-dacl-clause-memory c = λ e.
    let p = err_from_is_err_and c.from_residual-in_err-dacl.result c.from_residual-in_err-dacl.ensures.1 in
    let dacl = c.in_err-dacl.ensures.memory cc in
    record { control = c.in_ok-control.control; header = sym c.in_ok-control.ensures.read; owner = search rules; group = search rules; present = search rules; behind = search rules; list = search rules }
