use Rattle.sd_blocks.proofs.Cited.{arith, get_or, joined, length, ◌<◌, ◌≡◌}
use Rattle.sd_blocks.proofs.Written.{get_joined}
use Rattle.sd_blocks.proofs.level.Level.get.Goals as goal

pub returns-clause-value : goal.returns-clause-value
returns-clause-value g c =
    let is : c.index-blocks-locate.result ≡ get_or c.self.inside.blocks.items c.locate.result c.index-blocks-locate.result = rw (← c.as_slice-blocks.ensures.value) c.index-blocks-locate.is in
    let in_list : c.args.at < length (joined c.self.inside.blocks.items) = omega arith in
    rw (← c.self.view_is) (get_joined c.self.inside.blocks.items c.args.at c.locate.result c.index-blocks-locate.result c.start.result _ (rw c.as_slice-blocks.ensures.value at c.locate.ensures) in_list is c.start.ensures c.get.ensures)
