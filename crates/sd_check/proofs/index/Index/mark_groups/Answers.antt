use Rattle.std.proofs.Common.{◌&&◌, ap, ◌∙◌, List}
use Rattle.sd_check.proofs.Cited.{SidValue, GroupState, IsMarked, a_group_stands_for, and_parts, counts, place_of, same_sid, same_sid-true, take_all}
use Rattle.sd_check.proofs.Chains.{one_of_more}
use Rattle.sd_check.proofs.index.Index.mark_groups.Goals as goal

pub groups-preserved : goal.groups-preserved
groups-preserved c =
    let group = c.place-item.result in (
      (λ all index. c.mark.ensures.kept.0 all (c.groups.invariant.0.0 all index), λ s held. c.mark.ensures.kept.1 s (c.groups.invariant.0.1 s held)),
      λ kind s. one_of_more (IsMarked c.mark.new.self.heads c.mark.new.self.nexts s) (λ (g : SidValue × GroupState). same_sid g.0 s && counts kind g.1) c.args.groups.now c.groups.place-index group c.groups-test.true c.place-item.is
          (λ held. c.mark.ensures.kept.1 s (c.groups.invariant.1 kind s held))
          (λ has. c.mark.ensures.here s (c.place_of.ensures.place ∙ ap place_of (same_sid-true group.0 s (and_parts (same_sid group.0 s) (counts kind group.1) has).0))),
    )

pub returns-clause-here : goal.returns-clause-here
returns-clause-here c = λ kind s one.
    c.groups.invariant.1 kind s (ap (λ (groups : List (SidValue × GroupState)). a_group_stands_for groups kind s) (take_all c.groups.place-index c.args.groups.now c.groups-test.false) ∙ one)
