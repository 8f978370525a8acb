-- Which store a call of `open_and_audit` is about: the one with that root, of the history that it takes.
use Rattle.sd_script.specs.Output.{opening_in}
use Rattle.sd_script_audit.proofs.output.audit_output.Given as goal

abbrev pub ghosts-open_and_audit-J-StoreId : goal.ghosts-open_and_audit-J-StoreId
ghosts-open_and_audit-J-StoreId g a = record { opening = opening_in a.openings.options a.root.now }

abbrev pub ghosts-open_and_audit-J-Chain : goal.ghosts-open_and_audit-J-Chain
ghosts-open_and_audit-J-Chain g a = record { book = a.history.book; first = a.history.first }
