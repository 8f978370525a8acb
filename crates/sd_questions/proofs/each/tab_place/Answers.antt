use Rattle.std.proofs.Common.{◌==◌, ◌∙◌, ap, length, rules, tests}
use Rattle.std.specs.Option.{unwrap_or}
use Rattle.std.proofs.lemmas.Iterator.{YieldsList-from_slice}
use Rattle.std.proofs.lemmas.Iterator.Search.{position_from_yields_List}
use Rattle.std.proofs.lemmas.List.Sums.{prefix_len-le-length}
use Rattle.sd_commands.proofs.BytesByPart.{place_or_end}
use Rattle.sd_questions.proofs.each.tab_place.Goals as goal

pub returns-clause-place : goal.returns-clause-place
returns-clause-place c =
    let line = c.args.line.now in
    c.unwrap_or.ensures ∙ ap (λ end. unwrap_or end (length line)) (position_from_yields_List (λ b. b == 9) _ _ _ c.position-place.ensures.ran
    (YieldsList-from_slice line c.iter.ensures.rest) (λ x b q k. search (rules, tests))) ∙ place_or_end _ _ (prefix_len-le-length _ line)
