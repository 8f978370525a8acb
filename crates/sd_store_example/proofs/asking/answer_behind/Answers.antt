use Rattle.std.proofs.Common.{rules, ◌≡◌, None, sym, subst}
use Rattle.std.proofs.lemmas.Result.{IfErr-weaker}
use Rattle.sd_edit.specs.Journal.{opening_of, root_refusal}
use Rattle.sd_edit.specs.declared.opening.Opening.{Opening}
use Rattle.sd_store_example.specs.Behind.{IsAskError, IsAskedError}
use Rattle.sd_store_example.specs.declared.error.AskError.{AskError}
use Rattle.sd_store_example.proofs.Steps.{started_before}
use Rattle.sd_store_example.proofs.asking.answer_behind.Goals as goal

pub returns-clause-failed : goal.returns-clause-failed
returns-clause-failed g c =
    let o = opening_of c.args.mapping.now c.args.root.now in
    let edits = c.args.edits.now in
    let fits : root_refusal o ≡ None = search rules in
    let asked : AskError → Type 0 = λ error. IsAskedError g.J.StoreId.opening edits error in
    IfErr-weaker c.asked-answer.result asked (λ error. IsAskError o edits error)
    (λ error why. started_before o edits fits error
    (subst (λ (x : Opening). IsAskedError x edits error) (sym c.requires.opening) why))
    c.asked-answer.ensures.failed
