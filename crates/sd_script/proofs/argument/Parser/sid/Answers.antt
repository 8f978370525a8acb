-- A text with a fault is no SID.
use Rattle.std.proofs.Common.{refl}
use Rattle.sd_script.proofs.argument.Parser.sid.Goals as goal

pub returns-in-Err : goal.returns-in-Err
returns-in-Err c = (λ sid is. let no = c.in-Err.ensures.spelled sid is in cc (no), refl)
