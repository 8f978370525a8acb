use Rattle.sd_path.proofs.Cited.{Names, [], ap, append_assoc, arith, length, ◌++◌, ◌<◌, ◌∙◌, ◌∷◌, ◌≡◌}
use Rattle.sd_path.proofs.PathBytes.{names_of-push, Keeps-push}
use Rattle.sd_path.proofs.path.Path.child.Goals as goal

pub invariant_of-result : goal.invariant_of-result
invariant_of-result c =
    let above = c.self.inside.bytes.items in
    let name = c.args.name.now in
    let joined : c.in_ok-bytes.bytes.items ≡ above ++ (name ++ 0 ∷ []) =
    c.in_ok-bytes.ensures
    ∙ ap (λ bs. (bs ++ c.as_bytes.result.now) ++ 0 ∷ []) c.deref.ensures.value
    ∙ ap (λ bs. (above ++ bs) ++ 0 ∷ []) (c.as_bytes.ensures.value ∙ c.as_str.ensures.text)
    ∙ append_assoc above name (0 ∷ []) in
    Keeps-push above name c.in_ok-bytes.bytes.items c.self.inside.count c.self.invariant (omega (arith, c.if-self-ge-MAX_NAMES.false)) c.as_str.ensures.name joined

pub returns : goal.returns
returns c =
    let above = c.self.inside.bytes.items in
    let name = c.args.name.now in
    let joined : c.in_ok-bytes.bytes.items ≡ above ++ (name ++ 0 ∷ []) =
    c.in_ok-bytes.ensures
    ∙ ap (λ bs. (bs ++ c.as_bytes.result.now) ++ 0 ∷ []) c.deref.ensures.value
    ∙ ap (λ bs. (above ++ bs) ++ 0 ∷ []) (c.as_bytes.ensures.value ∙ c.as_str.ensures.text)
    ∙ append_assoc above name (0 ∷ []) in
    let room : c.self.inside.count < 128 = omega (arith, c.if-self-ge-MAX_NAMES.false) in
    let path = names_of-push above name c.in_ok-bytes.bytes.items c.self.inside.count c.self.invariant room c.as_str.ensures.name joined in
    let count = ap (λ (names : Names). length names) c.self.view_is in
    (omega (arith, c.self.invariant.counted, room, count), path ∙ ap (λ (names : Names). names ++ name ∷ []) c.self.view_is)
