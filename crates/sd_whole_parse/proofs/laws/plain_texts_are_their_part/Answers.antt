use Rattle.sd_whole_parse.proofs.PlainParts as laws
use Rattle.sd_whole_parse.proofs.laws.plain_texts_are_their_part.Goals as goal

pub returns-clause-part : goal.returns-clause-part
returns-clause-part c = laws.text_part

pub returns-clause-sacl : goal.returns-clause-sacl
returns-clause-sacl c = laws.without_sacl

pub returns-clause-error : goal.returns-clause-error
returns-clause-error c = laws.some_part
