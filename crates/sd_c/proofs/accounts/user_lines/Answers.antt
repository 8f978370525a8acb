-- One user more; and all of them.
use Rattle.std.proofs.Common.{ap, sym, ◌∙◌}
use Rattle.std.proofs.lemmas.List.{take_all}
use Rattle.std.proofs.lemmas.List.Folds.{flat_map-map}
use Rattle.std.specs.List.{flat_map}
use Rattle.sd_accounts.specs.Users.{named_user}
use Rattle.sd_c.specs.Accounts.{user_line}
use Rattle.sd_c.proofs.Joined.{one_more}
use Rattle.sd_c.proofs.accounts.user_lines.Goals as goal

pub loop-user-preserved : goal.loop-user-preserved
loop-user-preserved c =
    one_more (λ user. user_line (named_user user)) c.args.users.now c.loop-user.user-index c.user-item.result c.loop-user.text.items
    c.push_user.new.text.items c.loop-user-test.true c.user-item.is c.loop-user.invariant c.in_ok-push_user.ensures

pub returns : goal.returns
returns c =
    c.loop-user.invariant ∙ ap (flat_map (λ user. user_line (named_user user))) (take_all c.loop-user.user-index c.args.users.now c.loop-user-test.false)
    ∙ sym (flat_map-map user_line named_user c.args.users.now)
