-- The arguments are those of the account.
use Rattle.std.proofs.Common.{ap, map, string_bytes, subst, sym, ◌∙◌}
use Rattle.std.proofs.lemmas.Result.{IfOk-weaker}
use Rattle.sd_answer.specs.Word.{texts}
use Rattle.sd_accounts.specs.Accounts.{rows_of}
use Rattle.sd_named.specs.Arguments.{AreOfAccount}
use Rattle.sd_people.proofs.people.Asker.why_of_texts.Goals as goal

pub returns : goal.returns
returns c =
    let asker = c.args.self.now in
    let same = ap texts c.deref-2.ensures.value ∙ c.in_ok-arguments.ensures ∙ ap (λ all. map string_bytes all) c.deref.ensures.value in
    let are_of = subst (λ all. AreOfAccount (rows_of asker.naming.accounts.now) c.is_some-has_logon.result c.args.user.now c.args.mask.now asker.words.now all)
    (sym same) c.in_ok-named.ensures in
    IfOk-weaker c.answer_question.result _ _ (λ answer answers. record {
      arguments = c.deref-2.result.now;
      are_of = rw c.is_some-has_logon.ensures at are_of;
      answers = answers;
    }) c.answer_question.ensures
