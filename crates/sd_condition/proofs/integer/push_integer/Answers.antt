-- The parts follow one another.
use Rattle.sd_condition.proofs.Cited.{append_assoc, rules, to_z-of_z, w64}
use Rattle.std.proofs.Common.{FitsSigned}
use Rattle.sd_condition.proofs.integer.push_integer.Goals as goal

pub returns : goal.returns
returns c =
    let fits : FitsSigned w64 c.args.integer.value = search rules in
    rw (
      c.in_ok-push-3.ensures.items,
      c.in_ok-push-2.ensures.items,
      c.in_ok-push_i64.ensures,
      c.in_ok-push.ensures.items,
      c.byte.ensures,
      c.byte-2.ensures,
      c.byte-3.ensures,
      to_z-of_z w64 c.args.integer.value fits,
    ) (simp append_assoc)
