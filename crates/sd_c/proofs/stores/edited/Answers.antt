use Rattle.sd_c.proofs.Cited.{Edit, Err, IsNotEdited, NotDone, Ok, accepted, inr, refusal, rules, subst, sym, ◌≡◌}
use Rattle.sd_c.proofs.Reasons.{told_reason}
use Rattle.sd_c.proofs.stores.edited.Goals as goal

pub returns-in-Ok : goal.returns-in-Ok
returns-in-Ok c = (c.in-Store.store.value, c.in_ok-edit.edit, search rules, search rules, search rules, search rules)

pub returns : goal.returns
returns c =
    let a = c.args in
    let v = c.in-Store.store.value in
    let edit = c.in_ok-edit.edit in
    let reason = told_reason c.in-Err.e (refusal v.opening (accepted v) edit) search rules in (
      subst (IsNotEdited (λ (said : Edit). a.edit ≡ Ok said) (λ (why : NotDone). a.edit ≡ Err why) a.kept.now) (sym c.reason_of.ensures)
          (inr (inr (v, edit, search rules, search rules, reason))),
      search rules,
    )
