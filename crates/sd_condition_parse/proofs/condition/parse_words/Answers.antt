-- Each turn is a step.
use Rattle.sd_condition_parse.proofs.Cited.{err_from_is_err_and, start, step}
use Rattle.sd_condition_parse.specs.Condition.{words}
use Rattle.sd_condition_parse.proofs.Repeated.{left_done, left_more, left_refused}
use Rattle.sd_condition_parse.proofs.condition.parse_words.Goals as goal

pub returns-in_err-step-clause-words : goal.returns-in_err-step-clause-words
unfolding words
returns-in_err-step-clause-words c =
    let p = err_from_is_err_and c.from_residual-in_err-step.result c.from_residual-in_err-step.ensures.1 in
    rw (p.1, p.2, c.in_ok-word.ensures) (left_refused (step c.args.known) start c.word.new.self.rest.now c.in_err-step.field-0.0 c.words.state c.words.cursor.rest.now c.step.new.cursor.rest.now c.words.invariant c.in_err-step.ensures.step)

pub words-preserved : goal.words-preserved
words-preserved c =
    let made = rw c.if-branch.true at c.in_ok-step.ensures.step in
    left_more (step c.args.known) start c.word.new.self.rest.now c.words.state c.words.cursor.rest.now c.step.new.self c.step.new.cursor.rest.now c.words.invariant made c.in_ok-step.ensures.shorter

pub returns-clause-words : goal.returns-clause-words
unfolding words
returns-clause-words c =
    let made = rw c.if-branch.false at c.in_ok-step.ensures.step in
    rw c.in_ok-word.ensures (left_done (step c.args.known) start c.word.new.self.rest.now c.words.state c.words.cursor.rest.now c.step.new.self c.step.new.cursor.rest.now c.words.invariant made)
