-- A word has a letter at least.
use Rattle.sd_condition_parse.proofs.Cited.{begins_takes, sym, ◌∙◌}
use Rattle.sd_condition_parse.proofs.operator.eat_word.Goals as goal

pub returns-clause-shorter : goal.returns-clause-shorter
returns-clause-shorter c = λ _. rw c.split_at.ensures.back (begins_takes c.args.cursor.now.rest.now c.args.letters.now (sym c.begins.ensures.value ∙ c.if-not-begins.false))
