-- What is counted of the lines is what the state after the last one has.
use Rattle.sd_script.proofs.Cited.{ap, refl, ◌++◌, ◌∙◌, ◌≡◌}
use Rattle.sd_script.proofs.streams.script_output.Goals as goal

pub returns : goal.returns
returns c =
    let said = c.in_ok-answer_text.ensures in
    let same : c.answer_text.new.printed.items ≡ said.0 = said.1 ∙ ap (λ l. l ++ said.0) c.new-printed.ensures.items in
    let answered = rw (c.before_first_line-state.ensures, c.style.ensures) at said.2 in
    (c.answer_text.new.state, rw same answered, refl)
