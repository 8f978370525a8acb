use Rattle.std.proofs.lemmas.Option.{IfSome_then}
use Rattle.sd_check.proofs.Chains.{known_there}
use Rattle.sd_check.proofs.token.Token.has_in_one_look.Goals as goal

pub returns : goal.returns
returns c = rw (← c.self.view_is) (IfSome_then c.stands_for_in_one_look.result (rw c.deref.ensures.value at c.stands_for_in_one_look.ensures)
    (λ stands known. known_there _ _ _ _ _ _ c.self.invariant.2 c.args.kind stands known.0 known.1))
