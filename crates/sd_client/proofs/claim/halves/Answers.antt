use Rattle.std.proofs.Common.{rules}
use Rattle.std.proofs.lemmas.Str.Pattern.{split_once_first}
use Rattle.sd_client.proofs.Halves.{cut_in_halves}
use Rattle.sd_client.proofs.claim.halves.Goals as goal

pub returns : goal.returns
returns c = cut_in_halves c.args.text.now c.split_once.result
    (split_once_first 61 c.args.text.now c.split_once.result c.split_once.ensures.cases (search rules))
