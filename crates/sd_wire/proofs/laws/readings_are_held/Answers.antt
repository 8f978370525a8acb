-- The law on what is read.
use Rattle.sd_wire.proofs.ReadIsHeld as read
use Rattle.sd_wire.proofs.laws.readings_are_held.Goals as goal

pub returns : goal.returns
returns c = read.readings_are_held
