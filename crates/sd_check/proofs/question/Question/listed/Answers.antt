-- What no further entry comes to is what is granted, of one pass or of both.
use Rattle.std.proofs.Common.{refl, ◌≡◌, ℕ, Bool, true, false, ◌&&◌, ◌||◌, not, nat_eq, ◌∙◌, sym, ap, Some}
use Rattle.sd_check.proofs.Cited.{and-true, ne_eqb, applies, applies_again, first, is_allowed_by, limits_owner, asking, owners_in, rights_in, wanted_bits, is_restricted}
use Rattle.sd_check.proofs.Answered.{granted_by_passes}
use Rattle.sd_check.proofs.Passes.{pass_grants, passes_grant}
use Rattle.sd_check.proofs.question.Question.listed.Goals as goal

pub returns-then-this-ne0 : goal.returns-then-this-ne0
returns-then-this-ne0 g c = λ seen comes.
    let q = asking g.O.Trustee.sid c.args.self.now in
    let bits = wanted_bits q.mapping q.asked in
    let allowed : ℕ → Bool = λ b. is_allowed_by (first q.mapping (applies q.token q.owner) seen b) in
    let allowed_again : ℕ → Bool = λ b. is_allowed_by (first q.mapping (applies_again q.token q.owner) seen b) in
    let second : not (nat_eq (denote.Param.value_of (denote.Param.number g.row.BOTH)) 0) ≡ true = ap not (ne_eqb _ 0 c.if-this-ne0.true) in
    let both : is_restricted q.token ≡ true = sym c.requires ∙ second in
    granted_by_passes _ _ _ _ _ _ bits (rights_in bits) (owners_in q.token q.owner bits) _ (λ b. ap (λ t. allowed b && (not t || allowed_again b)) (sym both)) refl refl
    (passes_grant allowed allowed_again (not (limits_owner (Some seen))) (rights_in bits) (owners_in q.token q.owner bits) _ _ _
    (pass_grants q.mapping (applies q.token q.owner) _ _ seen c.args.progress.first c.args.progress.kept _ comes.first c.union-first.ensures)
    (pass_grants q.mapping (applies_again q.token q.owner) _ _ seen c.args.progress.second c.args.progress.kept _ (comes.second second) c.union.ensures)
    c.common.ensures)

pub returns-else-this-ne0 : goal.returns-else-this-ne0
returns-else-this-ne0 g c = λ seen comes.
    let q = asking g.O.Trustee.sid c.args.self.now in
    let bits = wanted_bits q.mapping q.asked in
    let alone : is_restricted q.token ≡ false = sym c.requires ∙ ap (λ n. not (nat_eq n 0)) c.if-this-ne0.false in
    granted_by_passes _ _ (λ b. is_allowed_by (first q.mapping (applies_again q.token q.owner) seen b)) _ _ _ bits (rights_in bits) (owners_in q.token q.owner bits) _
    (λ b. sym (and-true _) ∙ ap (λ t. is_allowed_by (first q.mapping (applies q.token q.owner) seen b) && (not t || is_allowed_by (first q.mapping (applies_again q.token q.owner) seen b))) (sym alone)) refl refl
    (pass_grants q.mapping (applies q.token q.owner) _ _ seen c.args.progress.first c.args.progress.kept _ comes.first c.union-first.ensures)
