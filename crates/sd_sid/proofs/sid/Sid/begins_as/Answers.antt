use Rattle.sd_sid.proofs.Cited.{Inside, SidValue, ap, arith, eqb-true, get_or, length, length-take-le, same_sid, sym, take, value_of, ℕ, ◌∙◌, ◌≡◌}
use Rattle.sd_sid.proofs.Compared.{same_fields, few_same}
use Rattle.sd_sid.proofs.sid.Sid.begins_as.Goals.{then-one-two-2-via-then-one-two-2, then-one-two-2-via-else-one-two-2+then-one-two-3, then-one-two-2-via-else-one-two-2+else-one-two-3+then-one-two-4, then-one-two-2-via-else-one-two-2+else-one-two-3+else-one-two-4+then-one-two-5}
use Rattle.sd_sid.proofs.sid.Sid.begins_as.Goals as goal

pub returns-then-one-two-2-clause-same : goal.returns-then-one-two-2-clause-same
returns-then-one-two-2-clause-same c same =
    let equal : c.self.inside ≡ c.other.inside = same_fields c.self.inside c.other.inside c.self.invariant c.other.invariant
    (ap (same_sid (value_of c.self.inside)) c.other.view_is
    ∙ ap (λ (s : SidValue). same_sid s c.args.other.now) c.self.view_is ∙ same) in
    let at : (i : ℕ) → get_or c.self.inside.subs i 0 ≡ get_or c.other.inside.subs i 0 = λ i. ap (λ (s : Inside). get_or s.subs i 0) equal in
    elim c.then-one-two-2.branch [
      | then-one-two-2-via-then-one-two-2 w ↦ absurd (w.if-one-two-2.true (at 0))
      | then-one-two-2-via-else-one-two-2+then-one-two-3 w ↦ absurd (w.if-one-two-3.true (at 1))
      | then-one-two-2-via-else-one-two-2+else-one-two-3+then-one-two-4 w ↦ absurd (w.if-one-two-4.true (at 2))
      | then-one-two-2-via-else-one-two-2+else-one-two-3+else-one-two-4+then-one-two-5 w ↦ absurd (w.if-one-two-5.true (at 3))
    ]

pub returns-then-self-other-clause-few : goal.returns-then-self-other-clause-few
returns-then-self-other-clause-few c authority few =
    let one = c.self.inside in
    let two = c.other.inside in
    let long : length (take one.count one.subs) ≡ one.count = length-take-le one.count one.subs (omega (arith, c.self.invariant.few, c.self.invariant.room)) in
    let shown : length (take one.count one.subs) ≡ length c.args.self.now.subs = ap (λ (s : SidValue). length s.subs) c.self.view_is in
    ap (λ (s : SidValue). same_sid s c.args.other.now) (sym c.self.view_is)
    ∙ ap (same_sid (value_of one)) (sym c.other.view_is)
    ∙ few_same one two c.self.invariant c.other.invariant c.if-one-two-2.false c.if-one-two-3.false c.if-one-two-4.false
    c.if-one-two-5.false c.if-one-two.false (eqb-true one.authority two.authority authority) c.if-self-other.true (omega (arith, few, long, shown))
