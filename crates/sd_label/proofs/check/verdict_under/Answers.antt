use Rattle.std.proofs.Common.{ap, sym, ◌∙◌, ◌==◌}
use Rattle.std.proofs.lemmas.Bool.{cond-false, cond-true}
use Rattle.sd_check.specs.declared.verdict.Verdict.TheVariants.{Denied, Granted}
use Rattle.sd_label.proofs.Under.{less_of_check, what_is_left}
use Rattle.sd_label.proofs.check.verdict_under.Goals as goal

pub returns-in-Granted : goal.returns-in-Granted
returns-in-Granted c = λ owner dacl t is.
    c.what_is_left.ensures ∙ ap what_is_left c.minus-in-Granted.ensures
    ∙ sym (cond-true (c.common-lost.result == 0) _ _ (sym c.is_empty.ensures ∙ c.if-is_empty.true))
    ∙ less_of_check c.args.taken owner dacl c.args.mapping.now t c.args.asked c.minus.result c.map.result c.common-lost.result
    (Granted c.in-Granted.granted) c.minus.ensures c.map.ensures c.common-lost.ensures (sym c.in-Granted.is ∙ is)

pub returns-in-Granted-2 : goal.returns-in-Granted-2
returns-in-Granted-2 c = λ owner dacl t is.
    sym (cond-false (c.common-lost.result == 0) _ _ (sym c.is_empty.ensures ∙ c.if-is_empty.false))
    ∙ less_of_check c.args.taken owner dacl c.args.mapping.now t c.args.asked c.minus.result c.map.result c.common-lost.result
    (Granted c.in-Granted-2.field-0) c.minus.ensures c.map.ensures c.common-lost.ensures (sym c.in-Granted-2.is ∙ is)

pub returns-in-Denied : goal.returns-in-Denied
returns-in-Denied c = λ owner dacl t is.
    ap Denied c.union.ensures
    ∙ less_of_check c.args.taken owner dacl c.args.mapping.now t c.args.asked c.minus.result c.map.result c.common-lost.result
    (Denied c.in-Denied.missing) c.minus.ensures c.map.ensures c.common-lost.ensures (sym c.in-Denied.is ∙ is)
