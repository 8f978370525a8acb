use Rattle.sd_answer.proofs.Cited.{IsFirstNoGroup, IsGroup, subst, texts, ◌≡◌}
use Rattle.sd_answer.proofs.Words.{AreEach-more, first_none_at}
use Rattle.sd_answer.proofs.word.read_base.Goals as goal

pub loop-place-preserved : goal.loop-place-preserved
loop-place-preserved c =
    AreEach-more (IsGroup c.args.known) c.args.texts.now c.loop-place.place _ c.loop-place.groups.items c.push.new.self.items c.in-Some.group
    c.loop-place-test.true c.loop-place.invariant c.in-Some.ensures.group c.in_ok-push-in-Some.ensures.items

pub returns-in-None-clause-no_group : goal.returns-in-None-clause-no_group
returns-in-None-clause-no_group c = λ place is.
    let same : c.loop-place.place ≡ place = cc (is) in
    subst (λ n. IsFirstNoGroup c.args.known (texts c.args.texts.now) n) same
    (first_none_at (IsGroup c.args.known) c.args.texts.now c.loop-place.place _ c.loop-place.groups.items c.loop-place-test.true c.loop-place.invariant
    c.in-None.ensures.none)
