-- The others are the list without the entry.
use Rattle.sd_analysis.proofs.Cited.{Ace, Descendant, InheritUnlike, List, ap, inr, list_of, remove, subst, ◌∙◌, ◌≡◌}
use Rattle.sd_analysis.proofs.effect.has_effect.Goals as goal

pub returns-clause-yes : goal.returns-clause-yes
returns-clause-yes c = λ is.
    let g = c.args.mapping.now in
    let es : List Ace = c.args.entries.now in
    let others : c.deref-2.result.now ≡ remove es c.args.place =
    c.deref-2.ensures.value ∙ c.remove.ensures.items ∙ ap (λ (list : List Ace). remove list c.args.place) c.in_ok-others.ensures.items in
    inr (subst (λ (list : List Ace). (d : Descendant) × InheritUnlike g c.args.base.now (list_of g d es) (list_of g d list)) others (c.in_ok-unlike.ensures.yes is))
