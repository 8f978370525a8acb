-- The chain of a place with one link, and that a group's, leads to nobody else.
use Rattle.sd_check.proofs.Chains.{alone_stands, alone_unmarked}
use Rattle.sd_check.proofs.index.Index.stands_for_in_one_look.Goals as goal

pub returns-then-self-link-eq0 : goal.returns-then-self-link-eq0
returns-then-self-link-eq0 c =
    let more = c.if-link-gt1.true in (
      alone_unmarked c.args.self.now.heads c.args.self.now.nexts c.args.sid.now c.place_of.result c.place_of.ensures.place more (c.if-self-link-eq0.true),
      alone_stands c.args.self.now.heads c.args.self.now.nexts c.args.user.now c.args.groups.now c.args.sid.now c.args.kind c.place_of.result c.index-groups-link.result _ c.place_of.ensures.place c.requires.chains c.requires.user more c.if-self-link-eq0.true
          c.index-groups-link.is c.stands_for.ensures,
    )
