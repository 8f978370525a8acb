use Rattle.sd_edit.specs.Journal.{opening_of}
use Rattle.sd_store_tests.proofs.tests.client.answer.Given as goal

-- the store of the root that was just read
abbrev pub ghosts-answer_behind-J-StoreId : goal.ghosts-answer_behind-J-StoreId
ghosts-answer_behind-J-StoreId g a = record { opening = opening_of a.mapping.now a.root.now }

-- the history that was just opened
abbrev pub ghosts-answer_behind-J-Chain : goal.ghosts-answer_behind-J-Chain
ghosts-answer_behind-J-Chain g a = record { book = a.history.book; first = a.history.first }
