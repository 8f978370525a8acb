use Rattle.sd_script.proofs.Cited.{ap, false, sym, texts, true, ◌∙◌}
use Rattle.sd_script.proofs.Askings.{line_parsed}
use Rattle.sd_script.proofs.line.read_line.Goals as goal

pub returns-then-is_untimely : goal.returns-then-is_untimely
returns-then-is_untimely c =
    line_parsed c.args.notation c.args.is_open c.args.line.now c.in-Ok.text.now (texts c.deref.result.now)
    (texts c.in-Some.command.arguments.now) c.in-Some.command.name
    c.in-Ok.ensures.cases.0 c.in-Ok.ensures.cases.1 (ap texts c.deref.ensures.value ∙ c.in_ok-words.ensures) c.in-Some.ensures
    c.asked.result c.in-Some-transpose.asked true c.asked.ensures c.in-Some-transpose.ensures (sym c.is_untimely.ensures ∙ c.if-is_untimely.true)

pub returns : goal.returns
returns c =
    line_parsed c.args.notation c.args.is_open c.args.line.now c.in-Ok.text.now (texts c.deref.result.now)
    (texts c.in-Some.command.arguments.now) c.in-Some.command.name
    c.in-Ok.ensures.cases.0 c.in-Ok.ensures.cases.1 (ap texts c.deref.ensures.value ∙ c.in_ok-words.ensures) c.in-Some.ensures
    c.asked.result c.in-Some-transpose.asked false c.asked.ensures c.in-Some-transpose.ensures (sym c.is_untimely.ensures ∙ c.if-is_untimely.false)
