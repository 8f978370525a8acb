use Rattle.sd_script_audit.proofs.Workers as workers
use Rattle.sd_script_audit.proofs.laws.workers_show_in_the_opening.Goals as goal

pub returns : goal.returns
returns c = workers.workers_show_in_the_opening
