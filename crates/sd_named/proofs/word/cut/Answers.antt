-- The word has none of the endings.
use Rattle.std.proofs.Common.{refl}
use Rattle.sd_named.proofs.word.cut.Goals as goal

pub returns-in-None : goal.returns-in-None
returns-in-None c = (
  refl,
  (c.in_default.ensures.none, (c.in_default-before.ensures.none, (c.in_default-before-2.ensures.none, (c.in-None.ensures.none, tt)))),
)
