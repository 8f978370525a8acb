use Rattle.std.proofs.Common.{◌-◌, drop, length, sym, arith}
use Rattle.sd_check.proofs.Cited.{take_all, length-drop, drop_of_length-le}
use Rattle.sd_check.proofs.index.beyond_chains.Goals as goal

pub returns-then-groups-gt-MAX_CHAINED : goal.returns-then-groups-gt-MAX_CHAINED
returns-then-groups-gt-MAX_CHAINED c =
    take_all (length c.args.groups.now - 254) (drop 254 c.args.groups.now) (omega (arith, length-drop 254 c.args.groups.now))

pub returns-else-groups-gt-MAX_CHAINED : goal.returns-else-groups-gt-MAX_CHAINED
returns-else-groups-gt-MAX_CHAINED c = sym (drop_of_length-le c.args.groups.now {i = 254} c.if-groups-gt-MAX_CHAINED.false)
