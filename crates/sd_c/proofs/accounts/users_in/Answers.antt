-- Out of memory, for accounts that are kept.
use Rattle.std.proofs.Common.{Some, refl, rules, subst, sym, ◌≡◌}
use Rattle.std.proofs.lemmas.Result.{IfErr-weaker}
use Rattle.std.specs.Arc.{arc_value}
use Rattle.sd_accounts.specs.Accounts.{rows_of}
use Rattle.sd_c.specs.Accounts.{RefusesUsers}
use Rattle.sd_c.specs.Kept.{accounts_in}
use Rattle.sd_c.specs.declared.accounts.NotAnswered.TheVariants as reasons
use Rattle.sd_c.specs.declared.refusal.Refusal.TheVariants.{Memory}
use Rattle.sd_c.proofs.accounts.users_in.Goals as goal

pub returns-in_err-users_text-clause-err : goal.returns-in_err-users_text-clause-err
returns-in_err-users_text-clause-err c =
    let rows = rows_of (arc_value c.in-Accounts.accounts) in
    let kept : accounts_in c.args.kept.now ≡ Some rows = search rules in
    IfErr-weaker c.from_residual.result (λ why. why ≡ reasons.Refused Memory) _
    (λ why is. subst (RefusesUsers c.args.kept.now) (sym is) (rows, kept, refl)) (search rules)
