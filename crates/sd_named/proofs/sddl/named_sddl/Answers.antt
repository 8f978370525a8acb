-- A byte more is read.
use Rattle.std.proofs.Common.{ap, arith, inr, length, string_bytes, subst, sym, ◌+◌, ◌++◌, ◌≡◌, ◌≤◌, ◌∙◌}
use Rattle.std.proofs.lemmas.Bool.{true≢false}
use Rattle.std.proofs.lemmas.Result.{IfOk-weaker}
use Rattle.sd_accounts.specs.Accounts.{rows_of}
use Rattle.sd_named.specs.Sddl.{IsField, begun}
use Rattle.sd_named.proofs.Fields.{all_read, next_at, other_more, sid_more}
use Rattle.sd_named.proofs.sddl.named_sddl.Goals as goal
use Rattle.sd_named.proofs.sddl.named_sddl.Goals.{then-is_sid+in_ok-push, else-is_sid+in_ok-field_text+in_ok-append+in_ok-push-2}

pub loop-i-init : goal.loop-i-init
loop-i-init c = rw (c.new-field.ensures.items, c.new-named.ensures.items) (begun, omega arith)

pub loop-i-preserved : goal.loop-i-preserved
loop-i-preserved c =
    let rows = rows_of c.args.accounts.now in
    let deep : c.step-is_sid.result.0.depth ≤ c.loop-i.i + 1 = omega (arith, c.step-is_sid.ensures.depth, c.loop-i.invariant.1) in
    let bytes = c.as_bytes-bytes.result.now in
    let next = c.copied.ensures ∙ next_at bytes (c.loop-i.i + 1) c.get.result c.get.ensures.lookup.1 c.get.ensures.lookup.3 in
    elim c.if-is_sid.branch [
      | then-is_sid+in_ok-push w ↦ (
        sid_more rows c.args.known bytes c.loop-i.i _ c.loop-i.place c.copied.result c.step-is_sid.result c.loop-i.field.items c.loop-i.named.items
            c.if-is_sid.field.items c.if-is_sid.named.items c.loop-i-test.true c.loop-i.invariant.0 c.step-is_sid.ensures.step next w.if-is_sid.true
            (ap (λ v. v.items) w.field-is ∙ w.in_ok-push.ensures.items) (ap (λ v. v.items) w.named-is),
        deep,
      )
      | else-is_sid+in_ok-field_text+in_ok-append+in_ok-push-2 w ↦ (
        other_more rows c.args.known bytes c.loop-i.i _ c.loop-i.place c.copied.result c.step-is_sid.result c.loop-i.field.items c.loop-i.named.items
            w.in_ok-field_text.field-0.items w.append.new.self.items c.if-is_sid.named.items c.if-is_sid.field.items c.loop-i-test.true c.loop-i.invariant.0 c.step-is_sid.ensures.step next w.if-is_sid.false
            (subst (λ f. IsField rows c.args.known f w.in_ok-field_text.field-0.items) w.deref.ensures.value w.in_ok-field_text.ensures)
            w.in_ok-append.ensures.items (ap (λ v. v.items) w.named-is ∙ w.in_ok-push-2.ensures.items)
            (ap (λ v. v.items) w.field-is ∙ w.new-field-else-is_sid.ensures.items),
        deep,
      )
    ]

pub returns : goal.returns
returns c =
    let rows = rows_of c.args.accounts.now in
    let bytes = c.as_bytes-bytes.result.now in
    let end : c.loop-i.i ≡ length bytes = omega (arith, c.loop-i-test.false, c.loop-i.auto.i-end) in
    let is = subst (λ f. IsField rows c.args.known f c.in_ok-field_text-2.field-0.items) c.deref-2.ensures.value c.in_ok-field_text-2.ensures in
    IfOk-weaker c.from_str.result _ _
    (λ named same. all_read rows c.args.known c.args.text.now bytes c.append-2.new.self.items (string_bytes named) c.loop-i.i c.loop-i.place c.loop-i.field.items
    c.loop-i.named.items c.in_ok-field_text-2.field-0.items c.as_bytes-bytes.ensures.value end c.loop-i.invariant.0 is c.in_ok-append-2.ensures.items
    (inr (λ utf8. true≢false (sym (c.in-Err.ensures.succeeds utf8)), same))) c.from_str.ensures.ok
