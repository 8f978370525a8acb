-- Parses that found something, and what is known of their steps.
use Rattle.sd_data.proofs.Cited.{Bool, None, Option, Some, cond, false, inl, inr, refl, true, ◌>>=◌, ◌≡◌, ◌⊎◌}

pub some_is : {A : Type 0} (x y : A) → Some x ≡ Some y → x ≡ y
some_is x y e = cc

-- a choice, by its test
pub chosen : {A : Type 0} (b : Bool) (r s : Option A) (x : A) → cond b r s ≡ Some x → ((b ≡ true) × (r ≡ Some x)) ⊎ ((b ≡ false) × (s ≡ Some x))
chosen true r s x e = inl (refl, e)
chosen false r s x e = inr (refl, e)

-- a test that must fail
pub passed : {A : Type 0} (b : Bool) (r : Option A) (x : A) → cond b None r ≡ Some x → (b ≡ false) × (r ≡ Some x)
passed true r x e = absurd cc
passed false r x e = (refl, e)

-- a test that must hold
pub held : {A : Type 0} (b : Bool) (r : Option A) (x : A) → cond b r None ≡ Some x → (b ≡ true) × (r ≡ Some x)
held true r x e = (refl, e)
held false r x e = absurd cc

-- a step that found something
pub bound : {A B : Type 0} (r : Option A) (f : A → Option B) (y : B) → (r >>= f) ≡ Some y → (x : A) × (r ≡ Some x) × (f x ≡ Some y)
bound None f y e = absurd cc
bound (Some x) f y e = (x, refl, e)
