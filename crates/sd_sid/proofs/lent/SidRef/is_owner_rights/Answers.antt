-- OWNER RIGHTS has one sub-authority.
use Rattle.sd_sid.proofs.Cited.{Bool, List, SidValue, [], ap, authority_of, bytes_eq, false, owner_rights, refl, same_sid, suc, sym, true, u32s_at, zero, ℕ, ◌&&◌, ◌==◌, ◌∙◌, ◌∷◌, ◌≡◌}
use Rattle.sd_sid.proofs.lent.SidRef.is_owner_rights.Goals as goal

neither : (b : Bool) → (b && false) ≡ false
neither true = refl
neither false = refl

not_one : (bytes : List ℕ) (count : ℕ) → (count ≡ 1 → ⊥) → bytes_eq (u32s_at bytes 8 count) (4 ∷ []) ≡ false
not_one bytes zero other = refl
not_one bytes (suc zero) other = absurd (other refl)
not_one bytes (suc (suc n)) other = neither _

pub returns-then-self-ne1 : goal.returns-then-self-ne1
returns-then-self-ne1 c =
    let bytes = c.self.inside.bytes.now in
    sym (ap (λ (s : SidValue). same_sid s owner_rights) (sym c.self.view_is)
    ∙ ap (λ b. (authority_of bytes == 3) && b) (not_one bytes c.self.inside.count c.if-self-ne1.true) ∙ neither (authority_of bytes == 3))
