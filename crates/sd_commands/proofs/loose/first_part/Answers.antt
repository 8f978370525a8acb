use Rattle.sd_commands.proofs.Cited.{None, Some, YieldsList-from_slice, is_between, position_from_yields_List, rules, tests}
use Rattle.sd_commands.proofs.BytesByPart.{found, not_found, parts_before, parts_last}
use Rattle.sd_commands.proofs.loose.first_part.Goals as goal

pub returns-in-Some-clause-parts : goal.returns-in-Some-clause-parts
returns-in-Some-clause-parts c = λ place. parts_before c.args.text.now c.in-Some.end place
    (found _ _ _ (position_from_yields_List is_between _ _ (Some c.in-Some.end) c.in-Some.ensures.ran (YieldsList-from_slice _ c.iter.ensures.rest) (λ x b q k. search (rules, tests))))

pub returns-in-None-clause-parts : goal.returns-in-None-clause-parts
returns-in-None-clause-parts c = λ place. parts_last c.args.text.now place
    (not_found _ _ (position_from_yields_List is_between _ _ None c.in-None.ensures.ran (YieldsList-from_slice _ c.iter.ensures.rest) (λ x b q k. search (rules, tests))))
