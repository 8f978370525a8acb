-- One of the first few, or one of the further.
use Rattle.std.proofs.Common.{[], ap, arith, length, nat_eq, sym, ◌++◌, ◌<◌, ◌∙◌, ◌∷◌, ◌≡◌, ◌≤◌}
use Rattle.std.proofs.lemmas.List.{length-append}
use Rattle.std.specs.List.{list_any}
use Rattle.std.specs.Prelude.{false}
use Rattle.indexmap.specs.IndexSet.{insert_key}
use Rattle.sd_accounts.proofs.Filled.{one_further, one_of_few, still_apart}
use Rattle.sd_accounts.proofs.walk.Walk.insert.Goals as goal

pub invariant_of-self : goal.invariant_of-self
invariant_of-self c =
    let first = c.self.inside.first.items in
    let further = c.self.inside.further.keys in
    let n = c.args.number in
    let low : length first < 32 = omega (arith, c.if-len-lt-FEW.true, c.len.ensures, c.self.inside.first.ok.0) in
    let none = c.self.invariant.0.1 low in
    let not : list_any (nat_eq n) first ≡ false = ap (list_any (nat_eq n)) (sym c.deref.ensures.value) ∙ sym c.is_among.ensures ∙ c.if-is_among.false in
    let new = c.push.new.self.items in (
      (omega (arith, low, ap length c.in_ok-push.ensures.items, length-append first (n ∷ [])), λ few. none),
      still_apart (first ++ further) (new ++ further) n (ap (λ l. l ++ further) c.in_ok-push.ensures.items ∙ one_of_few first further n not none) c.self.invariant.1,
    )

pub invariant_of-self-in_ok-insert : goal.invariant_of-self-in_ok-insert
invariant_of-self-in_ok-insert c =
    let first = c.self.inside.first.items in
    let further = c.self.inside.further.keys in
    let n = c.args.number in
    let full : 32 ≤ length first = omega (arith, c.if-len-lt-FEW.false, c.len.ensures, c.self.inside.first.ok.0) in
    let not : list_any (nat_eq n) first ≡ false = ap (list_any (nat_eq n)) (sym c.deref.ensures.value) ∙ sym c.is_among.ensures ∙ c.if-is_among.false in
    let new = c.insert.new.self.keys in (
      (c.self.invariant.0.0, λ few. absurd (omega (arith, few, full))),
      still_apart (first ++ further) (first ++ new) n (ap (λ l. first ++ l) c.in_ok-insert.ensures.keys ∙ one_further first further n not) c.self.invariant.1,
    )

pub returns-in_ok-push : goal.returns-in_ok-push
returns-in_ok-push c =
    let first = c.self.inside.first.items in
    let further = c.self.inside.further.keys in
    let n = c.args.number in
    let low : length first < 32 = omega (arith, c.if-len-lt-FEW.true, c.len.ensures, c.self.inside.first.ok.0) in
    let none = c.self.invariant.0.1 low in
    let not : list_any (nat_eq n) first ≡ false = ap (list_any (nat_eq n)) (sym c.deref.ensures.value) ∙ sym c.is_among.ensures ∙ c.if-is_among.false in
    ap (λ l. l ++ further) c.in_ok-push.ensures.items ∙ one_of_few first further n not none ∙ ap (λ l. insert_key nat_eq l n) c.self.view_is

pub returns-in_ok-insert : goal.returns-in_ok-insert
returns-in_ok-insert c =
    let first = c.self.inside.first.items in
    let further = c.self.inside.further.keys in
    let n = c.args.number in
    let not : list_any (nat_eq n) first ≡ false = ap (list_any (nat_eq n)) (sym c.deref.ensures.value) ∙ sym c.is_among.ensures ∙ c.if-is_among.false in
    ap (λ l. first ++ l) c.in_ok-insert.ensures.keys ∙ one_further first further n not ∙ ap (λ l. insert_key nat_eq l n) c.self.view_is
