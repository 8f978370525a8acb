-- The words so far are those of the texts so far.
use Rattle.std.proofs.Common.{take}
use Rattle.sd_answer.specs.Word.{texts}
use Rattle.sd_accounts.specs.Accounts.{rows_of}
use Rattle.sd_named.specs.Arguments.{AreNamedWords}
use Rattle.sd_named.proofs.arguments.Naming.named_words.Given as goal

abbrev pub invariant-loop-place : goal.invariant-loop-place
invariant-loop-place l = AreNamedWords (rows_of l.fn.self.accounts.now) l.fn.self.known (texts (take l.place l.words)) l.ones.items
