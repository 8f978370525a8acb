-- The alternatives so far are in the lines.
use Rattle.sd_answer.proofs.Cited.{Alternative, LineValue, List, alternative_saying, fold, joined, take, values, ◌≡◌}
use Rattle.sd_answer.proofs.who.join_access.Given as goal

abbrev pub invariant-loop-alternative : goal.invariant-loop-alternative
invariant-loop-alternative l =
    values l.lines.items
    ≡ fold (λ (so_far : List LineValue) (a : Alternative). joined so_far l.access.mask (alternative_saying l.access.denied.items a))
    (values l.initial.lines.items) (take l.alternative-index l.access.alternatives.items)
