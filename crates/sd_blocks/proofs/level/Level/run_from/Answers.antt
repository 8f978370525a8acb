use Rattle.sd_blocks.proofs.Cited.{get_or, joined, length, ◌<◌, ◌≡◌}
use Rattle.sd_blocks.proofs.Walks.{run_joined}
use Rattle.sd_blocks.proofs.level.Level.run_from.Goals as goal

pub returns : goal.returns
returns g c =
    let is : c.index-blocks-locate.result ≡ get_or c.self.inside.blocks.items c.locate.result c.index-blocks-locate.result = rw (← c.as_slice-blocks.ensures.value) c.index-blocks-locate.is in
    let in_list : c.args.at < length (joined c.self.inside.blocks.items) = rw c.self.view_is c.requires in
    rw (← c.self.view_is) (run_joined c.self.inside.blocks.items c.args.at c.locate.result c.index-blocks-locate.result c.start.result c.run_from.result.now (rw c.as_slice-blocks.ensures.value at c.locate.ensures) in_list is c.start.ensures c.run_from.ensures)
