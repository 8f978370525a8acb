use Rattle.std.proofs.Common.{◌∙◌, sym, ap, cond}
use Rattle.sd_check.proofs.Given.{owners_is, no_owners}
use Rattle.sd_check.proofs.question.Question.owners_rights.Goals as goal

pub returns-then-is_empty : goal.returns-then-is_empty
returns-then-is_empty g c = no_owners _ _ _ c.common-owners.ensures (sym c.is_empty.ensures ∙ c.if-is_empty.true)

pub returns : goal.returns
returns g c = c.only_if.ensures ∙ ap (λ o. cond o c.common-owners.result 0) c.is_owner.ensures ∙ owners_is _ _ _ c.common-owners.ensures
