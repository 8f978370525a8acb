-- A name gives way to its SID, and another field stands.
use Rattle.std.proofs.Common.{◌∙◌}
use Rattle.std.proofs.lemmas.Result.{IfOk-weaker}
use Rattle.sd_accounts.specs.Accounts.{rows_of}
use Rattle.sd_named.proofs.Fields.{named_field, plain_field}
use Rattle.sd_named.proofs.sddl.field_text.Goals as goal

pub returns-in_ok-text-in-Some : goal.returns-in_ok-text-in-Some
returns-in_ok-text-in-Some c =
    IfOk-weaker c.from_slice-in-Some.result _ _
    (λ shown same. named_field (rows_of c.args.accounts.now) c.args.known c.args.field.now c.in-Ok.text.now shown.items c.in-Some.sid c.is_empty.result
    c.is_empty.ensures c.if-is_empty.false c.in-Ok.ensures.cases c.in-Some.ensures.named
    (same ∙ c.as_bytes.ensures.value ∙ c.in_ok-text-in-Some.ensures)) c.from_slice-in-Some.ensures.items

pub returns-in-None : goal.returns-in-None
returns-in-None c =
    IfOk-weaker c.from_slice-in-None.result _ _
    (λ shown same. plain_field (rows_of c.args.accounts.now) c.args.known c.args.field.now c.in-Ok.text.now shown.items c.in-Ok.ensures.cases
    c.in-None.ensures.none same) c.from_slice-in-None.ensures.items
