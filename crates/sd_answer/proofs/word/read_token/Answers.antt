use Rattle.sd_answer.proofs.Cited.{IsFirstNoWord, IsWord, [], ap, fold_push, refl, subst, sym, texts, ◌++◌, ◌∙◌, ◌∷◌, ◌≡◌}
use Rattle.sd_answer.specs.Word.{with_word}
use Rattle.sd_answer.proofs.Words.{AreEach-more, first_none_at}
use Rattle.sd_answer.proofs.word.read_token.Goals as goal

pub loop-place-preserved : goal.loop-place-preserved
loop-place-preserved c =
    let words = c.loop-place.invariant.0 in
    let word = c.in-Some.word in (
      words ++ word ∷ [],
      AreEach-more (IsWord c.args.known) c.args.texts.now c.loop-place.place _ words (words ++ word ∷ []) word c.loop-place-test.true
          c.loop-place.invariant.1 c.in-Some.ensures.word refl,
      c.in_ok-add-in-Some.ensures ∙ ap (λ t. with_word t word) c.loop-place.invariant.2 ∙ sym (fold_push with_word _ words word),
    )

pub returns-in-None-clause-first : goal.returns-in-None-clause-first
returns-in-None-clause-first c = λ place is.
    let same : c.loop-place.place ≡ place = cc (is) in
    subst (λ n. IsFirstNoWord c.args.known (texts c.args.texts.now) n) same
    (first_none_at (IsWord c.args.known) c.args.texts.now c.loop-place.place _ c.loop-place.invariant.0 c.loop-place-test.true c.loop-place.invariant.1 c.in-None.ensures.none)
