use Rattle.sd_script.proofs.Cited.{YieldsList-from_slice, all_from_yields_List, is_ascii_graphic, rules, tests}
use Rattle.sd_script.proofs.ids.has_id.Goals as goal

pub returns-then-not-is_silent : goal.returns-then-not-is_silent
returns-then-not-is_silent c =
    let all = all_from_yields_List is_ascii_graphic _ _ c.all.result c.all.ensures.ran
    (YieldsList-from_slice _ c.iter.ensures.rest) (λ x b q k. search (rules, tests)) in
    search (rules, tests, all)
