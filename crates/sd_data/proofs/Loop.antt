-- What is parsed one after the other, as a loop does.
use Rattle.sd_data.proofs.Cited.{Err, Gives, List, Malformed, Memory, None, Option, Refusal, Some, [], ap, append_assoc, refl, sym, ◌++◌, ◌>>=◌, ◌∷◌, ◌≡◌}

-- those that were read before, and those that are still read
abbrev pub with_front : {A : Type 0} → List A → Option (List A) → Option (List A)
with_front front read = read >>= λ others. Some (front ++ others)

pub regroup : {A : Type 0} (front : List A) (x : A) (read : Option (List A)) → with_front front (read >>= λ others. Some (x ∷ others)) ≡ with_front (front ++ x ∷ []) read
regroup front x None = refl
regroup {A} front x (Some others) = ap (λ (l : List A). Some l) (sym (append_assoc front (x ∷ []) others))

-- where a part is refused, so is the whole
pub refused : {A B : Type 0} (e : Refusal) (part : Option A) (whole : Option B) → Gives (Err e) part → (part ≡ None → whole ≡ None) → Gives (Err e) whole
refused Memory part whole given none = tt
refused Malformed part whole given none = none given
