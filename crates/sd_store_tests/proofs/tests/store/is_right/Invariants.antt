use Rattle.sd_edit.specs.Journal.{opening_of}
use Rattle.sd_store_tests.proofs.tests.store.is_right.Given as goal

-- the store of the root that was just read
abbrev pub ghosts-started-J-StoreId : goal.ghosts-started-J-StoreId
ghosts-started-J-StoreId g a = record { opening = opening_of a.mapping.now a.root.now }

-- the history that was just opened
abbrev pub ghosts-started-J-Chain : goal.ghosts-started-J-Chain
ghosts-started-J-Chain g a = record { book = a.history.book; first = a.history.first }
