use Rattle.sd_label.proofs.LawProofs.{label_grants_no_request, label_only_takes_away}
use Rattle.sd_label.proofs.laws.label_only_takes_away.Goals as goal

pub returns-clause-granted : goal.returns-clause-granted
returns-clause-granted c = label_only_takes_away

pub returns-clause-requests : goal.returns-clause-requests
returns-clause-requests c = label_grants_no_request
