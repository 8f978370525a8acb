-- What is kept of the SID.
use Rattle.std.proofs.Common.{ap, ◌∙◌}
use Rattle.sd_people.specs.Names.{kept_name}
use Rattle.sd_people.proofs.Kept.{found}
use Rattle.sd_people.proofs.names.Names.of.Goals as goal

pub returns-in-Some : goal.returns-in-Some
returns-in-Some c = c.text_kept.ensures ∙ ap kept_name (c.in-Some.ensures.value ∙ found c.args.self.now.map c.args.sid.now)

pub returns-in-None : goal.returns-in-None
returns-in-None c = ap kept_name (c.in-None.ensures.value ∙ found c.args.self.now.map c.args.sid.now)
