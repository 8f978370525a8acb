-- What precedes the ending is one text, and that one is no SID.
use Rattle.std.proofs.Common.{ap, codes, subst, sym, ◌++◌, ◌∙◌, ◌≡◌}
use Rattle.std.proofs.lemmas.List.{append_cancel_right}
use Rattle.sd_text.specs.Grammar.{Spells}
use Rattle.sd_text.specs.Sid.{sid_text_in}
use Rattle.sd_client.proofs.word.device_group.Goals as goal

pub returns-in-Err-clause-none : goal.returns-in-Err-clause-none
returns-in-Err-clause-none c = λ sid is.
    let cases = c.in_ok-front.ensures.cases in
    let whole : c.args.text.now ≡ c.in_ok-front.front.now ++ codes "=device" = cases.1.1 ∙ ap (λ f. f ++ codes "=device") (sym cases.2) in
    let same : is.0 ≡ c.in_ok-front.front.now = append_cancel_right is.0 c.in_ok-front.front.now (codes "=device") (sym is.1 ∙ whole) in
    let read = c.read_sid_text_in.ensures.spelled sid (subst (λ f. Spells (sid_text_in c.args.known) f sid) same is.2) in
    cc (read)
