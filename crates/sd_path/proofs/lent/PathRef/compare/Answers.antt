use Rattle.sd_path.proofs.PathBytes.{cmp-kept}
use Rattle.sd_path.proofs.lent.PathRef.compare.Goals as goal

pub returns : goal.returns
returns c =
    let e = cmp-kept _ _ _ _ c.self.invariant c.other.invariant in
    cc (e, c.cmp.ensures, c.self.view_is, c.other.view_is)
