use Rattle.sd_versions.proofs.Moves.{published_grows, publish_is_whole}
use Rattle.sd_versions.proofs.laws.publish_is_whole.Goals as goal

pub returns-clause-grows : goal.returns-clause-grows
returns-clause-grows c = published_grows

pub returns-clause-whole : goal.returns-clause-whole
returns-clause-whole c = publish_is_whole
