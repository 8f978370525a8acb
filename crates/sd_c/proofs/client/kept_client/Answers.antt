-- A text that isn't UTF-8 is refused for this.
use Rattle.std.proofs.Common.{sym}
use Rattle.sd_c.proofs.Cited.{err_from_is_err_and, inr}
use Rattle.sd_c.proofs.client.kept_client.Goals as goal

pub returns-in_err-text-clause-err : goal.returns-in_err-text-clause-err
returns-in_err-text-clause-err c =
    let p = err_from_is_err_and c.from_residual-in_err-text.result c.from_residual-in_err-text.ensures.1 in
    let fault = c.in_err-text.ensures.err in
    rw (p.1, p.2, fault.1) (inr (inr (c.in_ok-known.known, c.in_ok-user.user, (c.in_ok-known.ensures.ok, sym c.in_ok-user.ensures), fault.2)))
