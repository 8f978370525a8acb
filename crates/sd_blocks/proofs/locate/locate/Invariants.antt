use Rattle.sd_blocks.proofs.Cited.{joined, length, take, ◌-◌, ◌<◌, ◌≤◌}
use Rattle.sd_blocks.proofs.locate.locate.Given as goal

abbrev pub invariant-loop-high : goal.invariant-loop-high
invariant-loop-high g l = record { order : l.low < l.high; inside : l.high ≤ length l.blocks; low : length (joined (take l.low l.blocks)) ≤ l.at; high : l.high < length l.blocks → l.at < length (joined (take l.high l.blocks)) }

abbrev pub decreases-loop-high : goal.decreases-loop-high
decreases-loop-high g l = l.high - l.low
