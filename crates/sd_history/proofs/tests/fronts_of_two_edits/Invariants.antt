use Rattle.sd_history.proofs.tests.fronts_of_two_edits.Given as goal

-- the history that was just opened
abbrev pub ghosts-written : goal.ghosts-written
ghosts-written g a = record { book = a.history.book; first = a.history.first }
