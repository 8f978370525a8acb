-- The arguments are parsed one after another.
use Rattle.std.proofs.Common.{inl, refl}
use Rattle.sd_script.proofs.argument.Parser.opening.Goals as goal

pub returns : goal.returns
returns c = inl (_, c.in_ok-readers.ensures, inl ((c.in_ok-root.root, c.in_ok-root.is_all), c.in_ok-root.ensures, refl))
