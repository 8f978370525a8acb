use Rattle.sd_path.proofs.Cited.{Names, [], drop, length, subst, take, up, ◌++◌, ◌-◌, ◌∷◌, ◌≡◌}
use Rattle.sd_path.proofs.PathBytes.{last_name-kept}
use Rattle.sd_path.proofs.lent.PathRef.last_name.Goals as goal

pub returns : goal.returns
returns c =
    let bs = c.self.inside.bytes.now in
    let from = c.parent_len.result in
    let P : Names → Type 0 = λ names. names ≡ up names ++ take (length bs - 1 - from) (drop from bs) ∷ [] in
    subst P c.self.view_is
    (last_name-kept bs c.self.inside.count from c.self.invariant c.if-self-eq0.false c.parent_len.ensures.front c.parent_len.ensures.within)
