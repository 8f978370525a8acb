use Rattle.sd_history.proofs.tests.fronts_meet_in_another_thread.Given as goal

-- the history that was just opened
abbrev pub ghosts-is_shared : goal.ghosts-is_shared
ghosts-is_shared g a = record { book = a.history.book; first = a.history.first }
