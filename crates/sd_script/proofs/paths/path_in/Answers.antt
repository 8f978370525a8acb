use Rattle.sd_script.proofs.paths.path_in.Goals as goal

pub returns-in-Percent : goal.returns-in-Percent
returns-in-Percent c = rw (c.in-Percent.is) c.percent_path.ensures
