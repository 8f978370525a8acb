-- Where one of the words is no group, they are no base.
use Rattle.sd_script.proofs.Cited.{Err, ap, groups_or_none, refl}
use Rattle.sd_script.proofs.argument.Parser.base.Goals as goal

pub returns-in-Err-NoWord : goal.returns-in-Err-NoWord
returns-in-Err-NoWord c =
    (λ groups are. groups_or_none _ _ groups _ are (c.in-Err-NoWord.ensures.no_group _ (ap Err c.in-Err-NoWord.field-0-is)), refl)
