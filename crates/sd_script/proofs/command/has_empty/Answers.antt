use Rattle.sd_script.proofs.Cited.{YieldsList-from_slice, any_from_yields_List, is_empty, list_any-texts, rules, tests, ◌∙◌}
use Rattle.sd_script.proofs.command.has_empty.Goals as goal

pub returns : goal.returns
returns c =
    any_from_yields_List (λ word. is_empty word.now) _ _ c.any.result c.any.ensures.ran (YieldsList-from_slice _ c.iter.ensures.rest) (λ x b q k. search (rules, tests))
    ∙ list_any-texts is_empty c.args.words.now
