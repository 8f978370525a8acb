-- A descriptor beside one that is the same to a check: no token gains anything.
use Rattle.sd_review.proofs.Cited.{All-nil, AreGains, Change, HasABit, List, MappingValue, Parts, [], gains, holds, is_granted, subst, sym, token_of, true, ℕ, ◌≡◌}

pub no_gains : (g : MappingValue) (old new : Parts) (changes : List Change) → old ≡ new → changes ≡ [] → AreGains g [] old new changes
no_gains g old new changes same none = subst (AreGains g [] old new) (sym none) (record {
  complete = λ t b base no granted. subst (λ (p : Parts). is_granted p.owner p.dacl g t b ≡ true) (sym same) granted;
  shown = All-nil (λ (c : Change). (b : ℕ) → holds c.mask b ≡ true → gains g old new (token_of [] c.witness) b ≡ true);
  some = All-nil (λ (c : Change). HasABit c.mask);
})
