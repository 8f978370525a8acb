-- What the outcome of a chain of tests tells of them.
use Rattle.std.proofs.Common.{◌≡◌, Bool, true, false, cond, Result, Ok, Err, refl}

-- a test that found no fault
pub passed : {A E : Type 0} (b : Bool) (fault : E) (r : Result A E) (x : A) → cond b (Err fault) r ≡ Ok x → (b ≡ false) × (r ≡ Ok x)
passed true fault r x e = absurd cc
passed false fault r x e = (refl, e)
