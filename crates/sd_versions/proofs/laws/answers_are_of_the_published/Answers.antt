use Rattle.sd_versions.proofs.Moves.{answers_are_of_the_published}
use Rattle.sd_versions.proofs.laws.answers_are_of_the_published.Goals as goal

pub returns : goal.returns
returns c = answers_are_of_the_published
