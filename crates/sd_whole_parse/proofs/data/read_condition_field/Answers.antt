use Rattle.sd_condition.proofs.Lengths.{tokens_fit}
use Rattle.sd_whole_parse.proofs.data.read_condition_field.Goals as goal

pub copied-requires : goal.copied-requires
copied-requires c = rw (c.deref.ensures.value, c.in_ok-bytes.ensures, ← c.condition.view_is) (tokens_fit c.condition.inside.tokens.items c.condition.invariant).0
