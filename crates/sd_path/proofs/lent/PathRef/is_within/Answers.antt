use Rattle.sd_path.proofs.PathBytes.{begins-kept}
use Rattle.sd_path.proofs.lent.PathRef.is_within.Goals as goal

pub returns : goal.returns
returns c =
    let e = begins-kept _ _ _ _ c.top.invariant c.self.invariant in
    cc (e, c.starts_with.ensures.value, c.self.view_is, c.top.view_is)
