-- It is the answer to the texts of the user, of its mask and of its groups.
use Rattle.std.proofs.Common.{ap, drop, is_some, subst, sym, ◌∙◌, ◌≡◌}
use Rattle.std.proofs.lemmas.Result.{IfOk-weaker}
use Rattle.sd_accounts.specs.Accounts.{rows_of}
use Rattle.sd_accounts.specs.Groups.{AreGroupsOf}
use Rattle.sd_commands.specs.Answer.{answer_of}
use Rattle.sd_named.specs.Arguments.{starts}
use Rattle.sd_people.proofs.Read.{why_read}
use Rattle.sd_people.proofs.people.Asker.why_read.Goals as goal

pub returns : goal.returns
returns c =
    let asker = c.args.self.now in
    let rows = rows_of asker.naming.accounts.now in
    let member = c.args.member.now in
    let are = subst (AreGroupsOf rows member.starts) (sym c.groups.ensures.groups)
    (subst (λ rs. AreGroupsOf rs member.starts member.groups) c.requires.member.0 c.groups.ensures.all) in
    IfOk-weaker c.answer.result _ _ (λ answer says. λ text mask empty is.
    why_read rows asker.settings.now text mask asker.words.now c.args.reading.now c.args.user.now member.starts c.after_first-logged.result.now c.groups.result.now
    c.in_ok-token.token (answer_of answer) empty is (c.requires.member.1 ∙ ap (λ l. starts (is_some l) c.args.user.now asker.words.now) is.logon)
    (c.after_first-logged.ensures ∙ ap (λ ss. drop 1 ss) c.starts.ensures) are
    c.in_ok-token.ensures.user c.in_ok-token.ensures.groups c.in_ok-token.ensures.token says)
    c.answer.ensures
