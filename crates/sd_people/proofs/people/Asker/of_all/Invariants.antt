-- What is said of the users so far; and the search is still for what is asked.
use Rattle.std.proofs.Common.{take}
use Rattle.sd_accounts.specs.Accounts.{rows_of}
use Rattle.sd_accounts.specs.Users.{named}
use Rattle.sd_people.specs.Asked.{each_of}
use Rattle.sd_people.specs.Passed.{IsFit}
use Rattle.sd_people.specs.People.{AreTold}
use Rattle.sd_people.proofs.people.Asker.of_all.Given as goal

abbrev pub invariant-loop-user : goal.invariant-loop-user
invariant-loop-user l = record {
  told : AreTold (rows_of l.fn.self.naming.accounts.now) l.fn.self.settings.now l.fn.self.words.now (each_of l.each)
      (named (take l.user-index l.users)) l.told.items l.left;
  fit : IsFit (rows_of l.fn.self.naming.accounts.now) l.fn.self.settings.now l.fn.self.words.now (each_of l.each) l.search;
}
