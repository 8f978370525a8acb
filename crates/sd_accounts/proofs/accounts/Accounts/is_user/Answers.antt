use Rattle.std.proofs.Common.{ap, ◌∙◌}
use Rattle.std.specs.List.{list_any}
use Rattle.sd_accounts.specs.Kept.{row_of}
use Rattle.sd_accounts.specs.Names.{says_user}
use Rattle.sd_accounts.proofs.Found.{any_of}
use Rattle.sd_accounts.proofs.accounts.Accounts.is_user.Goals as goal

pub returns : goal.returns
returns c =
    c.any_says_user.ensures ∙ ap (list_any (λ row. says_user c.args.sid.now (row_of row))) c.deref.ensures.value
    ∙ any_of (says_user c.args.sid.now) c.args.self.now.rows.items
