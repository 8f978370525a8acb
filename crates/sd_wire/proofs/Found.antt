-- Readings that found something, and what that tells of their steps.
use Rattle.sd_wire.proofs.Cited.{Bool, Err, Ok, Result, WireFault, cond, false, inl, inr, refl, true, ◌>>=◌, ◌≡◌, ◌⊎◌}

-- a reading that found something
abbrev pub good : {A : Type 0} → A → Result A WireFault
good x = Ok x

pub good_is : {A : Type 0} (x y : A) → good x ≡ good y → x ≡ y
good_is x y e = cc

-- a choice, by its test
pub chosen : {A : Type 0} (b : Bool) (r s t : Result A WireFault) → cond b r s ≡ t → ((b ≡ true) × (r ≡ t)) ⊎ ((b ≡ false) × (s ≡ t))
chosen true r s t e = inl (refl, e)
chosen false r s t e = inr (refl, e)

-- a step that found something
pub bound : {A B : Type 0} (r : Result A WireFault) (f : A → Result B WireFault) (y : B) → (r >>= f) ≡ Ok y → (x : A) × (r ≡ Ok x) × (f x ≡ Ok y)
bound (Ok x) f y e = (x, refl, e)
bound (Err fault) f y e = absurd cc
