-- Where one of the words is none, they make no token.
use Rattle.sd_script.proofs.Cited.{Err, ap, refl, token_or_none}
use Rattle.sd_script.proofs.argument.Parser.token.Goals as goal

pub returns-in-Err-NoWord : goal.returns-in-Err-NoWord
returns-in-Err-NoWord c =
    (λ token is. token_or_none _ _ _ token _ is (c.in-Err-NoWord.ensures.first _ (ap Err c.in-Err-NoWord.field-0-is)), refl)
