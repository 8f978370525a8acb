use Rattle.sd_line.proofs.Cited.{Err, Ok, err_from_is_err_and, inl, refl, rules}
use Rattle.sd_line.proofs.WordsLeft.{gives_more}
use Rattle.sd_line.proofs.mask.words_mask.Goals as goal

pub words-init : goal.words-init
words-init c = (search rules, record { place = search rules; gives = λ r is. is })

pub words-preserved : goal.words-preserved
words-preserved c = (
  search rules,
  record {
    place = search rules;
    gives = λ r more. c.words.invariant.1.gives r (rw c.in-Some.ensures.cut (gives_more c.args.kind _ _ _ _ _ r c.in_ok-bits-in-Some.ensures.value more));
  },
)

pub returns-in_err-bits-in-Some-clause-fault : goal.returns-in_err-bits-in-Some-clause-fault
returns-in_err-bits-in-Some-clause-fault c =
    let p = err_from_is_err_and c.from_residual.result c.from_residual.ensures.1 in
    rw (p.1, p.2) (c.words.invariant.1.gives (Err c.in_err-bits-in-Some.field-0.0) (rw c.in-Some.ensures.cut (inl c.in_err-bits-in-Some.ensures.fault)))

pub returns-in_err-word_mask-in-None-clause-fault : goal.returns-in_err-word_mask-in-None-clause-fault
returns-in_err-word_mask-in-None-clause-fault c =
    let p = err_from_is_err_and c.from_residual-in_err-word_mask-in-None.result c.from_residual-in_err-word_mask-in-None.ensures.1 in
    rw (p.1, p.2) (c.words.invariant.1.gives (Err c.in_err-word_mask-in-None.field-0.0) (rw c.in-None.ensures.whole (inl c.in_err-word_mask-in-None.ensures.fault)))

pub returns-in-None-clause-value : goal.returns-in-None-clause-value
returns-in-None-clause-value c = c.words.invariant.1.gives (Ok _) (rw c.in-None.ensures.whole (c.in_ok-word_mask-in-None.field-0, c.in_ok-word_mask-in-None.ensures.value, refl))
