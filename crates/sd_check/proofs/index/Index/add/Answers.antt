-- The group heads the chain of its place, and each place's chain leads where it led.
use Rattle.std.proofs.Common.{refl}
use Rattle.sd_check.proofs.Cited.{place_of}
use Rattle.sd_check.proofs.Chains.{index_more, led}
use Rattle.sd_check.proofs.index.Index.add.Goals as goal

pub returns-clause-chains : goal.returns-clause-chains
returns-clause-chains c = λ groups is index.
    index_more groups c.args.self.now.heads c.args.self.now.nexts c.args.number c.place_of-place.result _ c.args.group.now
    c.requires c.place_of-place.ensures.small c.place_of-place.ensures.place refl is index

pub returns-clause-marks : goal.returns-clause-marks
returns-clause-marks c = λ groups s index.
    led groups c.args.self.now.heads c.args.self.now.nexts c.args.number c.place_of-place.result _ c.requires c.place_of-place.ensures.small refl index (place_of s) 0
