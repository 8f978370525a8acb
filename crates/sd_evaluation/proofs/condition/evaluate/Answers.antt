use Rattle.std.proofs.Common.{Some, ap, sym, ◌∙◌}
use Rattle.std.specs.Option.{option_map}
use Rattle.sd_condition_text.specs.Stack.{left_by}
use Rattle.sd_evaluation.proofs.Parts.{left_is_the_truth, something_is_left}
use Rattle.sd_evaluation.specs.Evaluation.{Leaf, over_one, over_two}
use Rattle.sd_evaluation.specs.Seen.{seen_part}
use Rattle.sd_evaluation.proofs.condition.evaluate.Goals as goal

-- each condition has a tree, so something is left
pub unreachable-requires : goal.unreachable-requires
unreachable-requires c =
    something_is_left c.args.facts.now c.args.kind c.args.pass c.args.condition.now c.tokens.ensures.known
    (sym (ap (option_map seen_part) c.in-None.is) ∙ c.in_ok-part.ensures.exact
    ∙ ap (λ ts. left_by Leaf (over_one c.args.facts.now c.args.kind c.args.pass) (over_two c.args.facts.now c.args.kind) ts) c.tokens.ensures.tokens)

pub returns-clause-exact : goal.returns-clause-exact
returns-clause-exact c =
    left_is_the_truth c.args.facts.now c.args.kind c.args.pass c.args.condition.now (seen_part c.in-Some.part)
    (sym (ap (option_map seen_part) c.in-Some.is) ∙ c.in_ok-part.ensures.exact
    ∙ ap (λ ts. left_by Leaf (over_one c.args.facts.now c.args.kind c.args.pass) (over_two c.args.facts.now c.args.kind) ts) c.tokens.ensures.tokens)
    ∙ ap (λ truth. Some truth) (sym c.truth.ensures)
