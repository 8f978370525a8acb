use Rattle.sd_path.proofs.Cited.{ap, up, ◌∙◌}
use Rattle.sd_path.proofs.PathBytes.{Keeps-up, names_of-up}
use Rattle.sd_path.proofs.lent.PathRef.parent.Goals as goal

pub invariant_of-result : goal.invariant_of-result
invariant_of-result c =
    rw c.saturating_sub.ensures (Keeps-up c.self.inside.bytes.now _ _ c.self.invariant c.parent_len.ensures.front)

pub returns : goal.returns
returns c =
    names_of-up c.self.inside.bytes.now _ _ c.self.invariant c.parent_len.ensures.front ∙ ap up c.self.view_is
