use Rattle.sd_blocks.proofs.Cited.{[], ap, arith, length, length-insert, option_to_list, ◌++◌, ◌∙◌, ◌∷◌, ◌≡◌}
use Rattle.sd_blocks.proofs.RunSteps.{put_step}
use Rattle.sd_blocks.proofs.level.Level.put_run.Goals as goal

pub loop-item-preserved : goal.loop-item-preserved
loop-item-preserved g c =
    let left = c.pop.new.self.items in
    let whole : c.loop-item.run.items ≡ left ++ c.in-Some.item ∷ [] = c.pop.ensures.items ∙ ap (λ o. left ++ option_to_list o) c.in-Some.is in
    let longer = ap length c.in_ok-insert.ensures.done ∙ length-insert c.loop-item.self c.args.at c.in-Some.item c.loop-item.invariant.place in
    record {
      place = omega (arith, longer, c.loop-item.invariant.place);
      whole = put_step c.args.at c.loop-item.run.items left c.loop-item.self c.insert.new.self _ c.in-Some.item c.loop-item.invariant.place whole c.in_ok-insert.ensures.done c.loop-item.invariant.whole;
    }
