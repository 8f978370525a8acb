-- What stands before an ending is one text, and that one is no SID.
use Rattle.sd_answer.proofs.Cited.{Spells, ap, append_cancel_right, sid_text_in, subst, sym, ◌++◌, ◌∙◌, ◌≡◌}
use Rattle.sd_answer.proofs.word.sid_before.Goals as goal

pub returns-in-Err-clause-none : goal.returns-in-Err-clause-none
returns-in-Err-clause-none c = λ sid is.
    let cases = c.in_ok-front.ensures.cases in
    let whole : c.args.text.now ≡ c.in_ok-front.front.now ++ c.args.ending.now = cases.1.1 ∙ ap (λ f. f ++ c.args.ending.now) (sym cases.2) in
    let same : is.0 ≡ c.in_ok-front.front.now = append_cancel_right is.0 c.in_ok-front.front.now c.args.ending.now (sym is.1 ∙ whole) in
    let read = c.read_sid_text_in.ensures.spelled sid (subst (λ f. Spells (sid_text_in c.args.known) f sid) same is.2) in
    cc (read)
