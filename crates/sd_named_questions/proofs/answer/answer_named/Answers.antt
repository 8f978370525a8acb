-- The question is asked with SIDs in the place of names, of all tokens and of people.
use Rattle.std.proofs.Common.{Bor, List, ap, false, inl, map, option_map, refl, string_bytes, subst, sym, ◌∙◌, ℕ}
use Rattle.sd_answer.specs.Word.{texts}
use Rattle.sd_accounts.specs.Accounts.{rows_of}
use Rattle.sd_commands.specs.Answer.{answer_of}
use Rattle.sd_people.specs.Asked.{text_of}
use Rattle.sd_people.specs.People.{AnswersByPeople}
use Rattle.sd_named_questions.specs.Request.{AreNamed, IsGiven}
use Rattle.sd_named_questions.proofs.answer.answer_named.Goals as goal

pub returns : goal.returns
returns g c =
    let rows = rows_of c.args.accounts.now in
    let asks = c.args.request.question in
    let same = ap texts c.deref-3.ensures.value ∙ c.in_ok-arguments.ensures ∙ ap (λ all. map string_bytes all) c.deref.ensures.value in
    let named = subst (λ all. AreNamed rows c.in-Ok.settings.aliases c.in-Ok.settings.logon false asks (texts c.args.request.arguments.now) all)
    (sym same) c.in_ok-own.ensures.arguments in
    let given = subst (λ own. IsGiven rows c.in-Ok.settings.aliases asks (option_map (λ (text : Bor (List ℕ)). text.now) c.args.text) own)
    (sym c.text.ensures) c.in_ok-own.ensures.text in
    inl (record {
      settings = c.in-Ok.settings;
      gives = c.in-Ok.ensures;
      own_text = text_of c.text.result;
      own = record { question = asks; arguments = c.deref-3.result.now };
      is_named = record { question = refl; is_given = given; are_named = named };
      plain = answer_of c.in_ok-plain.plain;
      answers = c.in_ok-plain.ensures.ok;
      by_people = subst (λ style. AnswersByPeople (record {
        rows = rows;
        settings = c.in-Ok.settings;
        question = asks;
        text = text_of c.text.result;
        arguments = texts c.deref-3.result.now;
        style = style;
      }) (answer_of c.in_ok-plain.plain) (answer_of c.in_ok-by_people.field-0)) c.style.ensures
          (subst (λ arguments. AnswersByPeople (record {
            rows = rows;
            settings = c.in-Ok.settings;
            question = asks;
            text = text_of c.text.result;
            arguments = texts arguments;
            style = c.style.result;
          }) (answer_of c.in_ok-plain.plain) (answer_of c.in_ok-by_people.field-0)) (c.deref-2.ensures.value ∙ sym c.deref-3.ensures.value)
          c.in_ok-by_people.ensures);
    })
