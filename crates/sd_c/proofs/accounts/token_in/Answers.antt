-- A domain that is parsed, and a text that isn't UTF-8, or means no user that may log on.
use Rattle.std.proofs.Common.{Some, inl, inr, refl, rules, subst, ◌≡◌}
use Rattle.std.proofs.lemmas.Result.{IfErr-weaker}
use Rattle.std.specs.Arc.{arc_value}
use Rattle.std.specs.Str.{IsUtf8}
use Rattle.sd_text.specs.Alias.{in_domain}
use Rattle.sd_accounts.specs.Accounts.{rows_of}
use Rattle.sd_c.specs.Accounts.{RefusesNamed}
use Rattle.sd_c.specs.Kept.{accounts_in}
use Rattle.sd_c.proofs.accounts.token_in.Goals as goal

pub returns-in-Err-clause-err : goal.returns-in-Err-clause-err
returns-in-Err-clause-err c =
    let kept : accounts_in c.args.kept.now ≡ Some (rows_of (arc_value c.in-Accounts.accounts)) = search rules in
    inr (rows_of (arc_value c.in-Accounts.accounts), kept, inr (c.in_ok-known.known, c.in_ok-known.ensures.ok, inl (c.in-Err.place, refl, c.in-Err.ensures.err)))

pub returns-in-Ok-clause-err : goal.returns-in-Ok-clause-err
returns-in-Ok-clause-err c =
    let rows = rows_of (arc_value c.in-Accounts.accounts) in
    let kept : accounts_in c.args.kept.now ≡ Some rows = search rules in
    let utf8 : IsUtf8 c.args.user.now = search rules in
    let same : rows_of c.deref.result.now ≡ rows = search rules in
    let known : c.in_domain.result ≡ in_domain c.in_ok-known.known = search rules in
    IfErr-weaker c.token_of.result _ _ (λ why refuses.
    inr (
      rows,
      kept,
      inr (
        c.in_ok-known.known,
        c.in_ok-known.ensures.ok,
        inr (
          utf8,
          subst (λ rs. RefusesNamed rs (in_domain c.in_ok-known.known) c.args.user.now why) same
              (subst (λ k. RefusesNamed (rows_of c.deref.result.now) k c.args.user.now why) known
              (subst (λ t. RefusesNamed (rows_of c.deref.result.now) c.in_domain.result t why) c.in-Ok.ensures.ok refuses)),
        ),
      ),
    ))
    c.token_of.ensures.err
