-- One word more.
use Rattle.sd_accounts.specs.Accounts.{rows_of}
use Rattle.sd_answer.proofs.Words.{AreEach-more}
use Rattle.sd_named.specs.Word.{IsNamedWord}
use Rattle.sd_named.proofs.arguments.Naming.named_words.Goals as goal

pub loop-place-preserved : goal.loop-place-preserved
loop-place-preserved c =
    AreEach-more (IsNamedWord (rows_of c.args.self.now.accounts.now) c.args.self.now.known) c.args.words.now c.loop-place.place _
    c.loop-place.ones.items c.push.new.self.items c.in-Ok.one c.loop-place-test.true c.loop-place.invariant c.in-Ok.ensures.named c.in_ok-push-in-Ok.ensures.items
