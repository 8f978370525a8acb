-- Parses that fit, and what that says of their steps.
use Rattle.sd_whole.proofs.Cited.{Bool, Err, None, Ok, Option, Result, SidError, SidValue, Some, cond, false, if_sid, refl, true, ℕ, ◌>>?◌, ◌≡◌}

-- a parse that fits
abbrev pub fit : {A : Type 0} → A → Option A
fit x = Some x

pub fit_is : {A : Type 0} (x y : A) → fit x ≡ fit y → x ≡ y
fit_is x y e = cc

-- a step that fits
pub fitted : {A B : Type 0} (o : Option A) (f : A → Option B) (y : B) → (o >>? f) ≡ Some y → (x : A) × (o ≡ Some x) × (f x ≡ Some y)
fitted (Some x) f y e = (x, refl, e)
fitted None f y e = absurd cc

-- a test that was passed
pub passes : {A : Type 0} (b : Bool) (r : Option A) (y : A) → cond b None r ≡ Some y → (b ≡ false) × (r ≡ Some y)
passes true r y e = absurd cc
passes false r y e = (refl, e)

pub if_sid_is : (r : Result (SidValue × ℕ) SidError) (x : SidValue × ℕ) → if_sid r ≡ Some x → r ≡ Ok x
if_sid_is (Ok y) x e = let same : y ≡ x = fit_is y x e in cc
if_sid_is (Err fault) x e = absurd cc

-- a SID that was found
abbrev pub sid_found : SidValue × ℕ → Result (SidValue × ℕ) SidError
sid_found x = Ok x

pub sid_found_is : (x y : SidValue × ℕ) → sid_found x ≡ sid_found y → x ≡ y
sid_found_is x y e = cc
