use Rattle.sd_commands.proofs.Cited.{YieldsList-from_slice, ap, length, position_from_yields_List, prefix_len-le-length, rules, tests, unwrap_or, ◌==◌, ◌∙◌}
use Rattle.sd_commands.proofs.BytesByPart.{place_or_end}
use Rattle.sd_commands.proofs.value.first.Goals as goal

pub returns-clause-place : goal.returns-clause-place
returns-clause-place c =
    let text = c.args.text.now in
    c.unwrap_or.ensures ∙ ap (λ end. unwrap_or end (length text)) (position_from_yields_List (λ b. b == c.args.byte) _ _ _ c.position-end.ensures.ran
    (YieldsList-from_slice text c.iter.ensures.rest) (λ x b q k. search (rules, tests))) ∙ place_or_end _ _ (prefix_len-le-length _ text)
