-- The reason begins with the text in quotes.
use Rattle.std.proofs.Common.{◌≡◌, ◌∙◌, ◌++◌, append_assoc, codes, string_bytes, subst}
use Rattle.std.specs.Prelude.{IfOk}
use Rattle.sd_commands.specs.Answer.{answer_of}
use Rattle.sd_commands.specs.Escaped.{escaped}
use Rattle.sd_questions.specs.TextAnswer.{IsBadOption}
use Rattle.sd_questions.proofs.text_answer.bad_concern.Goals as goal

pub returns : goal.returns
returns c =
    let quoted : string_bytes c.in_ok-reason.reason ≡ codes "\"" ++ escaped c.args.text.now ++ codes "\": " ++ c.args.reason.now =
    rw (c.in_ok-reason.ensures.ok, c.as_str-shown.ensures.value, c.in_ok-shown.ensures) (simp append_assoc) in
    subst (λ said. IfOk c.bad_option.result (λ answer. IsBadOption (codes "concern") said (answer_of answer)))
    (c.as_str.ensures.value ∙ quoted) c.bad_option.ensures
