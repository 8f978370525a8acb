-- What is read, and the search, are for users without words.
use Rattle.std.proofs.Common.{subst, sym, ◌∙◌}
use Rattle.sd_answer.specs.Word.{texts}
use Rattle.sd_accounts.specs.Accounts.{rows_of}
use Rattle.sd_named.specs.Arguments.{AreNamedWords}
use Rattle.sd_people.proofs.people.people_asked.Goals as goal

pub of_all-requires : goal.of_all-requires
of_all-requires c =
    let ready = c.in_ok-readings.ensures c.in_ok-words.words (λ empty.
    subst (λ ws. AreNamedWords (rows_of c.args.accounts.now) c.args.settings.now.aliases (texts ws) c.in_ok-words.words)
    (c.deref.ensures.value ∙ sym c.deref-2.ensures.value ∙ empty) c.in_ok-words.ensures.named) in
    record { fit = c.in_ok-search.ensures c.args.settings.now c.in_ok-words.words ready; ready = ready }
