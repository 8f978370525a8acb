-- Each line is asked the question with SIDs in the place of names.
use Rattle.std.proofs.Common.{ap, inl, inr, map, refl, string_bytes, subst, sym, ◌∙◌}
use Rattle.sd_answer.specs.Word.{texts}
use Rattle.sd_accounts.specs.Accounts.{rows_of}
use Rattle.sd_arguments.specs.CommandLine.{request_of}
use Rattle.sd_named_questions.specs.Request.{AreNamed}
use Rattle.sd_named_questions.proofs.answer.answer_each_named.Goals as goal

pub returns-in-Err-clause-ok : goal.returns-in-Err-clause-ok
returns-in-Err-clause-ok g c =
    (request_of c.args.request, inr ((c.in-Err.field-0, c.in-Err.ensures), refl), c.in_ok-answer_each-in-Err.ensures.ok)

pub returns-clause-ok : goal.returns-clause-ok
returns-clause-ok g c =
    let same = ap texts c.deref-2.ensures.value ∙ c.in_ok-arguments.ensures ∙ ap (λ all. map string_bytes all) c.deref.ensures.value in
    let named = subst (λ all. AreNamed (rows_of c.args.accounts.now) c.in-Ok.settings.aliases c.in-Ok.settings.logon c.args.given.pairs c.args.request.question
    (texts c.args.request.arguments.now) all) (sym same) c.in_ok-own.ensures.arguments in (
      record { question = c.args.request.question; arguments = c.deref-2.result.now },
      inl (
        c.in-Ok.settings,
        c.in-Ok.ensures,
        record { question = refl; is_given = refl; are_named = named },
      ),
      c.in_ok-answer_each.ensures.ok,
    )
