use Rattle.std.proofs.Common.{subst, ◌≡◌}
use Rattle.sd_answer.proofs.Words.{AreEach-more, first_none_at}
use Rattle.sd_answer.specs.Word.{texts}
use Rattle.sd_client.specs.Word.{IsClientWord, IsFirstNoClientWord}
use Rattle.sd_client.proofs.read.read_words.Goals as goal

pub loop-place-preserved : goal.loop-place-preserved
loop-place-preserved c =
    let is = rw c.in-Some.is at c.in_ok-found.ensures.word in
    AreEach-more (IsClientWord c.args.known) c.args.texts.now c.loop-place.place _ c.loop-place.words.items c.push.new.self.items c.in-Some.word
    c.loop-place-test.true c.loop-place.invariant is c.in_ok-push.ensures.items

pub returns-in_default-clause-first : goal.returns-in_default-clause-first
returns-in_default-clause-first c = λ place is.
    let same : c.loop-place.place ≡ place = cc (is) in
    let none = rw c.in_default.is at c.in_ok-found.ensures.none in
    subst (λ n. IsFirstNoClientWord c.args.known (texts c.args.texts.now) n) same
    (first_none_at (IsClientWord c.args.known) c.args.texts.now c.loop-place.place _ c.loop-place.words.items c.loop-place-test.true c.loop-place.invariant
    none)
