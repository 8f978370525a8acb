use Rattle.sd_analysis.proofs.Cited.{ap, false_from_ne_true, last_sub, same_sid-true, sym, ◌∙◌}
use Rattle.sd_analysis.proofs.places.is_same.Goals as goal

pub returns-then-its_last-last : goal.returns-then-its_last-last
returns-then-its_last-last c = sym (false_from_ne_true _ (λ same. c.if-its_last-last.true
    (c.last_sub-its_last.ensures ∙ ap last_sub (same_sid-true c.args.one.now c.args.sid.now same) ∙ sym c.requires)))
