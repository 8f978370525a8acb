-- The question is that of the settings.
use Rattle.sd_commands.proofs.Cited.{answer_of, subst, sym}
use Rattle.std.specs.Prelude.{IfOk}
use Rattle.sd_access.specs.Access.{whole_reasons, whole_verdict}
use Rattle.sd_commands.specs.WholeVerdict.{AnswersShortly, AnswersWhy, IsWholeVerdict, question_of}
use Rattle.sd_commands.proofs.settings.CommandContext.verdict_for_client.Goals as goal

pub returns-in-Short : goal.returns-in-Short
returns-in-Short c =
    let settings = c.args.self.now.settings.now in
    let asked = question_of settings c.args.client.now c.args.asked in
    subst (λ form. IfOk c.short_answer.result (λ answer. IsWholeVerdict settings form c.args.descriptor.now c.args.client.now c.args.asked (answer_of answer)))
    (sym c.in-Short.is)
    (subst (λ chain. IfOk c.short_answer.result (λ answer. AnswersShortly c.args.descriptor.now
    (whole_verdict (record asked { chain = chain }) c.args.descriptor.now) (answer_of answer))) c.types.ensures c.short_answer.ensures)

pub returns-in-Explained : goal.returns-in-Explained
returns-in-Explained c =
    let settings = c.args.self.now.settings.now in
    let asked = question_of settings c.args.client.now c.args.asked in
    subst (λ form. IfOk c.explained_answer.result (λ answer. IsWholeVerdict settings form c.args.descriptor.now c.args.client.now c.args.asked (answer_of answer)))
    (sym c.in-Explained.is)
    (subst (λ chain. IfOk c.explained_answer.result (λ answer. AnswersWhy c.args.descriptor.now
    (whole_reasons (record asked { chain = chain }) c.args.descriptor.now) (answer_of answer))) c.types.ensures c.explained_answer.ensures)
